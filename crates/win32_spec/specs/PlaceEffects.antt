-- Each call makes one of the changes: `run`, `module`, and the calls that end a process or tell its code.
use Rattle.std.proofs.Common.{◌≡◌, ◌≢◌, inl, inr, ℕ, true, List, [], ◌∷◌, Some, None, MatchOption, slice_get, All}
use Rattle.std.proofs.Common.{IsTrue, refl, sym, ap, ◌∙◌, subst}
use Rattle.std.proofs.lemmas.Bool.{cases_eq}
use Rattle.w32_base.specs.Part.{KeepsLengths}
use Rattle.w32_base.specs.declared.call.Call.TheVariants as call
use Rattle.w32_base.specs.declared.call.Reply.{Reply}
use Rattle.w32_base.specs.declared.own.Own.{Own}
use Rattle.w32_base.specs.declared.setup.Module.{Module}
use Rattle.script_spec.specs.declared.script.Script.{Script}
use Rattle.vm_spec.specs.Block.{block_image}
use Rattle.vm_spec.specs.Image.{Image, image_of, with_image, SameSizes}
use Rattle.vm_spec.specs.SizeLaws.{writes_register}
use Rattle.vm_spec.specs.StepLaws.{SameSizes-block}
use Rattle.win32_spec.specs.State.{PlacedModule, Process, Win32State}
use Rattle.win32_spec.specs.Lookup.{is_alive, process_of, is_live, memory_by}
use Rattle.win32_spec.specs.Named.{object_by, process_named}
use Rattle.win32_spec.specs.ProcessCalls.{ExitCodeStep, TerminateStep, ExitSelfStep}
use Rattle.win32_spec.specs.MemoryCalls.{program_no_of, program_no_by, instructions_of, code_of, RunStep}
use Rattle.win32_spec.specs.Placing.{base_in, placed_of, placed_by, and_placed, ModuleStep}
use Rattle.win32_spec.specs.WellFormed.{IsPlaced, AreModules, IsHost, IsLayerProcess, IsFormed}
use Rattle.win32_spec.specs.LookupLaws.{same, differs}
use Rattle.win32_spec.specs.FormedLaws.{of_live}
use Rattle.win32_spec.specs.Tame.{ProcessBecomes}
use Rattle.win32_spec.specs.TameSteps.{lengths-same, tame_process}
use Rattle.win32_spec.specs.Effects.{MayWrite, MayExchange, CallEffect, Changes, Ends}
use Rattle.win32_spec.specs.CallEffects.{by_bool, by_option, unchanged}
use Rattle.win32_spec.specs.MemoryEffects.{own_effect, memory_by-found, HaveRegisters}

-- an image of the same sizes in a memory
lengths-with_image : (own : Own) (image : Image) → SameSizes (image_of own) image
    → KeepsLengths own (with_image own image)
lengths-with_image own image h = record { dat = h.dat; heap = h.heap; stack = h.stack; cyg = refl; scratch = refl }

-- a process with a program is a layer process of it
pub layer_of : (script : Script) (s : Win32State) (w k : ℕ) (p : Process) → IsFormed script s
    → process_of s.processes w ≡ Some p
    → is_alive p.life ≡ true → p.program ≡ Some k → IsLayerProcess script p k
layer_of script s w k p h found alive e =
    let live = of_live script s.objects p p.life alive (h.process w p found) in
    subst (λ o. MatchOption o (IsHost p) (IsLayerProcess script p)) e live.kind

pub run_effect : (script : Script) (s : Win32State) (w t : ℕ) (r : Reply) (new : Win32State) → HaveRegisters script
    → IsFormed script s
    → is_live (process_of s.processes w) ≡ true → RunStep script s w r new → CallEffect script s w t call.Run new
run_effect script s w t r new registers h live step =
    by_option (program_no_by s w) (λ e m. unchanged script s w t call.Run new m.1) (λ k e m.
    own_effect script s w t call.Run w
    (with_image (memory_by s w) (block_image (code_of script k) (image_of (memory_by s w)))) new (inl refl)
    (λ p f. (rw f at live, rw (memory_by-found s w p f) (keeps k p f (sym (ap program_no_of f) ∙ e)))) m.1) step
  where
    keeps : (k : ℕ) (p : Process) → process_of s.processes w ≡ Some p → p.program ≡ Some k
        → KeepsLengths p.own (with_image p.own (block_image (code_of script k) (image_of p.own)))
    keeps k p f e =
        let layer = layer_of script s w k p h f (rw f at live) e in
        let code : code_of script k ≡ layer.program.code = ap instructions_of layer.listed in
        lengths-with_image p.own (block_image (code_of script k) (image_of p.own))
        (SameSizes-block (code_of script k) (image_of p.own) layer.sizes.dat_size
        (subst (λ is. All (λ i. IsTrue (writes_register i)) is) (sym code) (registers k layer.program layer.listed)))

-- one more module, behind the others
pub base_in-behind : (placed : List PlacedModule) (k m base : ℕ) → base_in placed k ≡ None → m ≢ k
    → base_in (and_placed placed m base) k ≡ None
base_in-behind [] k m base e d = let s = differs m k d in rw s refl
base_in-behind (x ∷ xs) k m base e d =
    elim (cases_eq x.module_no k) [
      | inl n ↦ let s = same x.module_no k n in absurd (let f : Some x.base ≡ None = rw s at e in cc)
      | inr n ↦ let s = differs x.module_no k n in rw s (base_in-behind xs k m base (rw s at e) d)
    ]

pub modules-behind : (modules : List Module) (placed : List PlacedModule) (m base : ℕ) → base_in placed m ≡ None
    → IsPlaced modules (record { module_no = m; base = base }) → AreModules modules placed
    → AreModules modules (and_placed placed m base)
modules-behind modules [] m base free new h = (new, refl, tt)
modules-behind modules (x ∷ xs) m base free new h =
    elim (cases_eq x.module_no m) [
      | inl n ↦ let s = same x.module_no m n in absurd (let f : Some x.base ≡ None = rw s at free in cc)
      | inr n ↦ let s = differs x.module_no m n in (
        h.0,
        base_in-behind xs x.module_no m base h.1 (λ e. n (sym e)),
        modules-behind modules xs m base
            (rw s at free) new h.2,
      )
    ]

-- a process in which modules alone are placed
placed_becomes : (script : Script) (Written Acting Posting : Type 0) (p : Process) (k : ℕ) (placed : List PlacedModule)
    → is_alive p.life ≡ true → p.program ≡ Some k → Acting
    → (AreModules script.setup.modules p.placed → AreModules script.setup.modules placed)
    → ProcessBecomes script Written Acting Posting p (record p { placed = placed })
placed_becomes script Written Acting Posting p k placed alive program acting keeps = record {
  ended = λ e. absurd (cc);
  number = refl;
  slot = refl;
  program = refl;
  life = refl;
  handles = refl;
  threads = λ ts h. h;
  lengths = lengths-same p.own;
  bytes = λ n. refl;
  modules = λ n. absurd (n acting);
  posted = λ n t. refl;
  unplaced = λ e. absurd (cc);
  placed = keeps;
}

pub module_effect : (script : Script) (s : Win32State) (w t m : ℕ) (r : Reply) (new : Win32State)
    → is_live (process_of s.processes w) ≡ true → ModuleStep script s w m r new
    → CallEffect script s w t (call.Module m) new
module_effect script s w t m r new live step =
    by_option (program_no_by s w) (λ e x. unchanged script s w t (call.Module m) new x.1) (λ k program x.
    by_option (slice_get script.setup.modules m) (λ e x. unchanged script s w t (call.Module m) new x.1)
    (λ wanted listed x.
    by_option (base_in (placed_by s w) m) (λ free places.
    subst (λ n. CallEffect script s w t (call.Module m) n) (sym places.after)
    (Changes (tame_process script (MayWrite s w (call.Module m)) (MayExchange (call.Module m)) ⊥ w t s w
    (λ p. record p { placed = and_placed p.placed m places.base }) (λ p. refl)
    (λ p f. placed_becomes script (MayWrite s w (call.Module m) w) (w ≡ w) ⊥ p k (and_placed p.placed m places.base)
    (rw f at live)
    (sym (ap program_no_of f) ∙ program) refl
    (modules-behind script.setup.modules p.placed m places.base (subst (λ o. base_in (placed_of o) m ≡ None) f free)
    (record { wanted = wanted; listed = listed; within = places.place.0.within }))))))
    (λ base e x. unchanged script s w t (call.Module m) new x.1) x) x) step

pub exit_code_effect : (script : Script) (s : Win32State) (w t h : ℕ) (r : Reply) (new : Win32State)
    → ExitCodeStep s w h r new
    → CallEffect script s w t (call.ExitCode h) new
exit_code_effect script s w t h r new step =
    by_option (process_named (object_by s w h)) (λ e m. unchanged script s w t (call.ExitCode h) new m.1)
    (λ v e m. unchanged script s w t (call.ExitCode h) new m.1) step

pub terminate_effect : (script : Script) (s : Win32State) (w t h code : ℕ) (r : Reply) (new : Win32State)
    → TerminateStep s w h code r new
    → CallEffect script s w t (call.Terminate h code) new
terminate_effect script s w t h code r new step =
    by_option (process_named (object_by s w h)) (λ e m. unchanged script s w t (call.Terminate h code) new m.1)
    (λ v e m.
    by_bool (is_live (process_of s.processes v)) (λ alive m. Ends v code alive m.1)
    (λ dead m. unchanged script s w t (call.Terminate h code) new m.1) m) step

pub exit_self_effect : (script : Script) (s : Win32State) (w t code : ℕ) (r : Reply) (new : Win32State)
    → is_live (process_of s.processes w) ≡ true → ExitSelfStep s w code r new
    → CallEffect script s w t (call.ExitSelf code) new
exit_self_effect script s w t code r new live step = Ends w code live step.1
