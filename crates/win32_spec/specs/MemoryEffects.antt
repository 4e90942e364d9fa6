-- Each call makes one of the changes: the calls on memory.
use Rattle.std.proofs.Common.{◌≡◌, ◌⊎◌, inl, inr, ℕ, ◌+◌, ◌≤◌, true, ◌&&◌, nat_eq, nat_le, List, length, Some}
use Rattle.std.proofs.Common.{slice_get, All, IsTrue, refl, sym, ap, ◌∙◌, subst, arith, length-append, length-take}
use Rattle.std.proofs.Common.{length-drop}
use Rattle.std.proofs.lemmas.Bool.{eqb-true, leb-true}
use Rattle.w32_base.specs.Part.{KeepsLengths}
use Rattle.w32_base.specs.declared.call.Call.{Call}
use Rattle.w32_base.specs.declared.call.Call.TheVariants as call
use Rattle.w32_base.specs.declared.call.Region.{Region}
use Rattle.w32_base.specs.declared.call.Region.TheVariants.{Dat, Heap, Stack, Cyg, Scratch}
use Rattle.w32_base.specs.declared.call.Reply.{Reply}
use Rattle.w32_base.specs.declared.own.Own.{Own}
use Rattle.w32_base.specs.declared.setup.Program.{Program}
use Rattle.script_spec.specs.declared.script.Script.{Script}
use Rattle.vm_spec.specs.SizeLaws.{writes_register}
use Rattle.win32_spec.specs.Regions.{region_of, with_region, is_inside, range_of, written}
use Rattle.win32_spec.specs.State.{Process, Win32State}
use Rattle.win32_spec.specs.Lookup.{is_alive, process_of, is_live, memory_of, memory_by, with_own}
use Rattle.win32_spec.specs.Named.{object_by, process_named}
use Rattle.win32_spec.specs.ProcessCalls.{live_process}
use Rattle.win32_spec.specs.MemoryCalls.{has_range, copied, is_copyable, ReadMemoryStep, WriteMemoryStep}
use Rattle.win32_spec.specs.LookupLaws.{and_true, or_true, same_some}
use Rattle.win32_spec.specs.TameSteps.{tame_process}
use Rattle.win32_spec.specs.Effects.{MayWrite, MayExchange, CallEffect, Changes}
use Rattle.win32_spec.specs.CallEffects.{by_bool, by_option, unchanged}
use Rattle.win32_spec.specs.ThreadEffects.{live_of-found, memory_becomes}

-- Bytes that are written into a region leave its length.
pub length-written : (bytes : List ℕ) (place : ℕ) (new : List ℕ)
    → (length new ≡ 0) ⊎ (place + length new ≤ length bytes)
    → length (written bytes place new) ≡ length bytes
length-written bytes place new h =
    simp (length-append, length-take, length-drop) (elim h [ inl e ↦ omega arith | inr l ↦ omega arith ])

pub inside : (size place count : ℕ) → is_inside size place count ≡ true → (count ≡ 0) ⊎ (place + count ≤ size)
inside size place count e =
    elim (or_true (nat_eq count 0) (nat_le (place + count) size) e) [
      | inl t ↦ inl (eqb-true count 0 t)
      | inr t ↦ inr (leb-true (place + count) size t)
    ]

length-range : (bytes : List ℕ) (place count : ℕ) → is_inside (length bytes) place count ≡ true
    → length (range_of bytes place count) ≡ count
length-range bytes place count e =
    simp (length-take, length-drop)
    (elim (inside (length bytes) place count e) [ inl z ↦ omega arith | inr l ↦ omega arith ])

lengths-with_region : (own : Own) (region : Region) (bytes : List ℕ) → length bytes ≡ length (region_of own region)
    → KeepsLengths own (with_region own region bytes)
lengths-with_region own Dat bytes e = record { dat = e; heap = refl; stack = refl; cyg = refl; scratch = refl }
lengths-with_region own Heap bytes e = record { dat = refl; heap = e; stack = refl; cyg = refl; scratch = refl }
lengths-with_region own Stack bytes e = record { dat = refl; heap = refl; stack = e; cyg = refl; scratch = refl }
lengths-with_region own Cyg bytes e = record { dat = refl; heap = refl; stack = refl; cyg = e; scratch = refl }
lengths-with_region own Scratch bytes e = record { dat = refl; heap = refl; stack = refl; cyg = refl; scratch = e }

pub lengths-copied : (from : Own) (region : Region) (place count : ℕ) (into : Own) (into_region : Region)
    (into_place : ℕ)
    → has_range from region place count ≡ true → has_range into into_region into_place count ≡ true
    → KeepsLengths into (copied from region place count into into_region into_place)
lengths-copied from region place count into into_region into_place e f =
    let n = length-range (region_of from region) place count e in
    lengths-with_region into into_region
    (written (region_of into into_region) into_place (range_of (region_of from region) place count))
    (length-written (region_of into into_region) into_place (range_of (region_of from region) place count)
    (elim (inside (length (region_of into into_region)) into_place count f)
    [ inl z ↦ inl (n ∙ z) | inr l ↦ inr (rw n l) ]))

-- other bytes in a live process
pub own_effect : (script : Script) (s : Win32State) (w t : ℕ) (c : Call) (v : ℕ) (own : Own) (new : Win32State)
    → MayWrite s w c v
    → ((p : Process) → process_of s.processes v ≡ Some p → (is_alive p.life ≡ true) × KeepsLengths p.own own)
    → new ≡ with_own s v own → CallEffect script s w t c new
own_effect script s w t c v own new written keeps e =
    subst (λ n. CallEffect script s w t c n) (sym e)
    (Changes (tame_process script (MayWrite s w c) (MayExchange c) ⊥ w t s v (λ q. record q { own = own }) (λ q. refl)
    (λ q f. let k = keeps q f in memory_becomes script (MayWrite s w c v) (v ≡ w) ⊥ q own k.0 written k.1)))

-- the caller's memory is that of the caller
pub memory_by-found : (s : Win32State) (w : ℕ) (p : Process) → process_of s.processes w ≡ Some p → memory_by s w ≡ p.own
memory_by-found s w p e = ap memory_of e

copyable : (a : Own) (region : Region) (place : ℕ) (b : Own) (other : Region) (other_place count : ℕ)
    → is_copyable a region place b other other_place count ≡ true
    → (has_range a region place count ≡ true) × (has_range b other other_place count ≡ true)
copyable a region place b other other_place count e =
    and_true (has_range a region place count) (has_range b other other_place count)
    (and_true (nat_le count 512) (has_range a region place count && has_range b other other_place count) e).1

pub read_effect : (script : Script) (s : Win32State) (w t h : ℕ) (region : Region) (place : ℕ) (own_region : Region)
    (own_place count : ℕ)
    (r : Reply) (new : Win32State) → is_live (process_of s.processes w) ≡ true
    → ReadMemoryStep s w h region place own_region own_place count r new
    → CallEffect script s w t (call.ReadMemory h region place own_region own_place count) new
read_effect script s w t h region place own_region own_place count r new live step =
    let c : Call = call.ReadMemory h region place own_region own_place count in
    by_option (process_named (object_by s w h)) (λ e m. unchanged script s w t c new m.1) (λ v e m.
    by_option (live_process s v) (λ e m. unchanged script s w t c new m.1) (λ p e m.
    by_bool (is_copyable p.own region place (memory_by s w) own_region own_place count)
    (λ fits m. let both = copyable p.own region place (memory_by s w) own_region own_place count fits in
    own_effect script s w t c w (copied p.own region place count (memory_by s w) own_region own_place) new (inl refl)
    (λ q f. (
      rw f at live,
      rw (← memory_by-found s w q f)
          (lengths-copied p.own region place count (memory_by s w) own_region own_place both.0 both.1),
    ))
    m.1)
    (λ fits m. unchanged script s w t c new m.1) m) m) step

pub write_effect : (script : Script) (s : Win32State) (w t h : ℕ) (region : Region) (place : ℕ) (own_region : Region)
    (own_place count : ℕ)
    (r : Reply) (new : Win32State) → WriteMemoryStep s w h region place own_region own_place count r new
    → CallEffect script s w t (call.WriteMemory h region place own_region own_place count) new
write_effect script s w t h region place own_region own_place count r new step =
    by_option (process_named (object_by s w h))
    (λ e m. unchanged script s w t (call.WriteMemory h region place own_region own_place count) new m.1)
    (λ v named m.
    by_option (live_process s v)
    (λ e m. unchanged script s w t (call.WriteMemory h region place own_region own_place count) new m.1) (λ p e m.
    by_bool (is_copyable p.own region place (memory_by s w) own_region own_place count)
    (λ fits m. let both = copyable p.own region place (memory_by s w) own_region own_place count fits in
    let found = live_of-found (process_of s.processes v) p e in
    own_effect script s w t (call.WriteMemory h region place own_region own_place count) v
    (copied (memory_by s w) own_region own_place count p.own region place) new (inr named)
    (λ q f. let same : p ≡ q = same_some (process_of s.processes v) p q found.0 f in (
      rw (← same) found.1,
      subst (λ (k : Process). KeepsLengths k.own
          (copied (memory_by s w) own_region own_place count p.own region place)) same
          (lengths-copied (memory_by s w) own_region own_place count p.own region place both.1 both.0),
    ))
    m.1)
    (λ fits m. unchanged script s w t (call.WriteMemory h region place own_region own_place count) new m.1) m) m) step

-- Each program of the script writes none but the eight registers, as its text says them.
abbrev pub HaveRegisters : Script → Type 0
HaveRegisters script = (k : ℕ) (program : Program) → slice_get script.setup.programs k ≡ Some program
    → All (λ i. IsTrue (writes_register i)) program.code
