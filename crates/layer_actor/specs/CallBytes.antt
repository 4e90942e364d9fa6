-- Most calls leave the bytes of the process whose thread posts them; so do all calls of a main thread but the block of
-- local instructions.
use Rattle.std.proofs.Common.{◌≡◌, inl, inr, ℕ, ◌+◌, Bool, true, false, List, [], Option, Some, None, slice_index}
use Rattle.std.proofs.Common.{refl, sym, ap, ◌∙◌, subst}
use Rattle.std.proofs.lemmas.Bool.{cases_eq}
use Rattle.w32_base.specs.declared.call.Call.{Call}
use Rattle.w32_base.specs.declared.call.Call.TheVariants as call
use Rattle.w32_base.specs.declared.call.Reply.{Reply}
use Rattle.script_spec.specs.declared.script.Script.{Script}
use Rattle.win32_spec.specs.Call.{CallStep}
use Rattle.win32_spec.specs.CallEffects.{by_bool, by_option}
use Rattle.win32_spec.specs.Ends.{held_objects, swept, with_end}
use Rattle.win32_spec.specs.FormedLaws.{live_found}
use Rattle.win32_spec.specs.HandleCalls.{first_signalled}
use Rattle.win32_spec.specs.Handles.{Handle, handle_of, with_handle, without_handle}
use Rattle.win32_spec.specs.HeldLaws.{kept_process}
use Rattle.win32_spec.specs.Lookup.{is_alive, is_live, process_of, thread_in, memory_of, memory_by, change_process}
use Rattle.win32_spec.specs.Lookup.{change_thread, with_handles, with_thread, with_new_object}
use Rattle.win32_spec.specs.LookupLaws.{process_of-change_same, process_of-change_other, process_of-change_none}
use Rattle.win32_spec.specs.LookupLaws.{rising-change_process}
use Rattle.win32_spec.specs.Named.{event_named, handles_by, has_absent, is_full, mutex_named, named_by, object_by}
use Rattle.win32_spec.specs.Named.{process_named, GetsHandle, MakesObject}
use Rattle.win32_spec.specs.ObjectCalls.{write_end_by}
use Rattle.win32_spec.specs.Objects.{is_owner}
use Rattle.win32_spec.specs.ProcessCalls.{live_process, process_object, CountStep, resumed}
use Rattle.win32_spec.specs.State.{Object, Pipe, Process, Win32State}
use Rattle.win32_spec.specs.WellFormed.{IsWellFormed}
use Rattle.win32_spec.specs.WordCalls.{after_exchange, words_by}
use Rattle.layer_spec.specs.Turns.{is_live_process}
use Rattle.world_spec.specs.CodeLaws.{found-after}

-- the calls of which this is shown here
abbrev pub leaves_bytes : Call → Bool
leaves_bytes (call.Load h i) = true
leaves_bytes (call.CompareExchange h i old new) = true
leaves_bytes (call.Resume h x) = true
leaves_bytes (call.Open v) = true
leaves_bytes (call.ExitSelf code) = true
leaves_bytes (call.Event manual signalled) = true
leaves_bytes (call.Set h) = true
leaves_bytes (call.Mutex owned) = true
leaves_bytes (call.Release h) = true
leaves_bytes call.Pipe = true
leaves_bytes (call.Put h b) = true
leaves_bytes (call.Dup h n) = true
leaves_bytes (call.Close h) = true
leaves_bytes (call.WaitAny list) = true
leaves_bytes _ = false

-- a change of processes that leaves their bytes alone
own-changed : (w : ℕ) (f : Process → Process) → ((p : Process) → (f p).number ≡ p.number)
    → ((p : Process) → (f p).own ≡ p.own) → (ps : List Process) (v : ℕ)
    → memory_of (process_of (change_process w f ps) v) ≡ memory_of (process_of ps v)
own-changed w f number own ps v = elim (cases_eq v w) [
  | inl same ↦
      ap (λ k. memory_of (process_of (change_process w f ps) k)) same
      ∙ (by_answer (process_of ps w) refl ∙ ap (λ k. memory_of (process_of ps k)) (sym same))
  | inr apart ↦ ap memory_of (process_of-change_other w f number ps v apart)
]
  where
    by_answer : (o : Option Process) → process_of ps w ≡ o
        → memory_of (process_of (change_process w f ps) w) ≡ memory_of (process_of ps w)
    by_answer None e = ap memory_of (process_of-change_none w f ps e ∙ sym e)
    by_answer (Some p) e =
        ap memory_of (process_of-change_same w f number ps p e) ∙ (own p ∙ ap memory_of (sym e))

module _ (script : Script) (s : Win32State) (w t : ℕ) (r : Reply) (new : Win32State) (formed : IsWellFormed script s)
    (alive : is_live_process new w ≡ true) where
  abbrev Stays : Type 0
  Stays = memory_by new w ≡ memory_by s w

  given : (x : Win32State) → new ≡ x → memory_by x w ≡ memory_by s w → Stays
  given x e k = ap (λ n. memory_by n w) e ∙ k

  handled : (x : Win32State) (hs : List Handle) → x.processes ≡ s.processes → new ≡ with_handles x w hs → Stays
  handled x hs same e =
      given (with_handles x w hs) e
      (own-changed w (λ p. record p { handles = hs }) (λ p. refl) (λ p. refl) x.processes w
      ∙ ap (λ ps. memory_of (process_of ps w)) same)

  gets : (names : ℕ) → GetsHandle s w names r new → Stays
  gets names m =
      by_bool (is_full (handles_by s w) 1) (λ e k. given s k.1 refl)
      (λ e k. handled s (with_handle (handles_by s w) k.handle names) refl k.after) m

  makes : (object : Object) → MakesObject s w object r new → Stays
  makes object m =
      by_bool (is_full (handles_by s w) 1) (λ e k. given s k.1 refl)
      (λ e k. handled (with_new_object s k.number object)
      (with_handle (handles_by s w) k.handled.handle k.number) refl k.handled.after) m

  counts : (f : ℕ → ℕ) (v x : ℕ) → CountStep s f v x r new → Stays
  counts f v x m = by_option (live_process s v) (λ e k. given s k.1 refl) (λ p e k.
      by_option (thread_in p.threads x) (λ e k. given s k.1 refl) (λ y e k.
      given (with_thread s v x (λ z. record z { suspended = f z.suspended })) k.1
      (own-changed v
      (λ p. record p { threads = change_thread x (λ z. record z { suspended = f z.suspended }) p.threads })
      (λ p. refl) (λ p. refl) s.processes w)) k) m

  closes : (hs : List Handle) → new ≡ swept (with_handles s w hs) → Stays
  closes hs e =
      let q = live_found (process_of new.processes w) alive in
      let ps : List Process = change_process w (λ p. record p { handles = hs }) s.processes in
      let stays = (kept_process (held_objects ps s.objects) 1 s.next ps w q.0
      (rising-change_process w (λ p. record p { handles = hs }) (λ p. refl) 1 s.next s.processes
      formed.formed.processes)
      (subst (λ (n : Win32State). process_of n.processes w ≡ Some q.0) e q.1)).0 in
      ap memory_of q.1 ∙ (sym (ap memory_of stays)
      ∙ own-changed w (λ p. record p { handles = hs }) (λ p. refl) (λ p. refl) s.processes w)

  ends : (code : ℕ) → new ≡ with_end s w code → Stays
  ends code e =
      let q = live_found (process_of new.processes w) alive in
      elim (found-after script s formed w code w q.0
      (subst (λ (n : Win32State). process_of n.processes w ≡ Some q.0) e q.1)) [
        | inl other ↦ absurd (other.0 refl)
        | inr this ↦ absurd (let never : true ≡ false = sym q.2 ∙ ap is_alive this.1 in cc)
      ]

  exchanges : (h i old n : ℕ) (o : Option (List ℕ)) → new ≡ after_exchange s w h o i old n → Stays
  exchanges h i old n None e = given s e refl
  exchanges h i old n (Some words) e = given _ e refl

  -- Where the process lives on after such a call of a thread of its own, it has the same bytes.
  pub call-bytes : (c : Call) → leaves_bytes c ≡ true → CallStep script s w t c r new → Stays
  call-bytes (call.Load h i) is m = given s m.1 refl
  call-bytes (call.CompareExchange h i old n) is m = exchanges h i old n (words_by s w h) m.1
  call-bytes (call.Resume h x) is m =
      by_option (process_named (object_by s w h)) (λ e k. given s k.1 refl) (λ v e k. counts resumed v x k) m
  call-bytes (call.Open v) is m =
      by_option (process_object s.objects v) (λ e k. by_bool (is_live (process_of s.processes v)) (λ e k. makes _ k)
      (λ e k. given s k.1 refl) k) (λ o e k. gets o k) m
  call-bytes (call.ExitSelf code) is m = ends code m.1
  call-bytes (call.Event manual signalled) is m = makes _ m
  call-bytes (call.Set h) is m =
      by_option (event_named (object_by s w h)) (λ e k. given s k.1 refl) (λ x e k. given _ k.1 refl) m
  call-bytes (call.Mutex owned) is m = makes _ m
  call-bytes (call.Release h) is m =
      by_option (mutex_named (object_by s w h)) (λ e k. given s k.1 refl) (λ owner e k.
      by_bool (is_owner owner w t) (λ e k. given _ k.1 refl) (λ e k. given s k.1 refl) k) m
  call-bytes call.Pipe is m =
      by_bool (is_full (handles_by s w) 2) (λ e k. given s k.1 refl)
      (λ e k. handled (with_new_object s k.number (Pipe []))
      (with_handle (with_handle (handles_by s w) k.read_end k.number) k.write_end (k.number + 1)) refl k.after) m
  call-bytes (call.Put h b) is m =
      by_option (write_end_by s w h) (λ e k. given s k.1 refl) (λ bytes e k. given _ k.1 refl) m
  call-bytes (call.Dup h n) is m =
      by_option (process_named (object_by s w h)) (λ e k. given s k.1 refl) (λ v e k.
      by_option (live_process s v) (λ e k. given s k.1 refl) (λ p e k.
      by_option (handle_of p.handles n) (λ e k. given s k.1 refl) (λ names e k. gets names k) k) k) m
  call-bytes (call.Close h) is m =
      by_option (named_by s w h) (λ e k. given s k.1 refl)
      (λ names e k. closes (without_handle (handles_by s w) h) k.1) m
  call-bytes (call.WaitAny list) is m =
      by_bool (has_absent (handles_by s w) list) (λ e k. given s k.1 refl) (λ e k.
      by_option (first_signalled s w t (handles_by s w) list 0) (λ e k. absurd k) (λ n e k.
      by_option (object_by s w (slice_index list n)) (λ e k. absurd k) (λ object e k. given _ k.1 refl) k) k) m
  call-bytes _ is m = absurd (cc)
