-- Another place in a slot, with the same process, leaves the tables sound; and another suspend count of a thread is
-- the change of that thread.
use Rattle.std.proofs.Common.{◌≡◌, ◌∙◌, ℕ, List, Option, Some, None, MatchOption, slice_set, refl, sym, ap, subst}
use Rattle.std.proofs.lemmas.List.{length-set}
use Rattle.w32_base.specs.declared.call.Call.TheVariants as call
use Rattle.w32_base.specs.declared.call.Reply.{Reply}
use Rattle.w32_base.specs.declared.call.Reply.TheVariants as reply
use Rattle.win32_spec.specs.State.{Thread, Process, Win32State}
use Rattle.win32_spec.specs.Lookup.{thread_in, change_process, change_thread, with_thread}
use Rattle.win32_spec.specs.Named.{object_by, process_named, Gives}
use Rattle.win32_spec.specs.Pipes.{all_holders_of}
use Rattle.win32_spec.specs.ProcessCalls.{live_process, resumed, suspended_more, CountStep, ResumeStep, SuspendStep}
use Rattle.win32_spec.specs.ThreadEffects.{resume_effect, suspend_effect}
use Rattle.win32_spec.specs.WellFormed.{IsWellFormed}
use Rattle.w32_handles.specs.CountLaws.{all_holders-keep}
use Rattle.w32_process.specs.Places.{Place}
use Rattle.w32_process.specs.Table.{Table, place_at, number_at, count_at, with_place, with_count}
use Rattle.w32_process.specs.SoundLaws.{number_at-set_kept, IsSound-same, within_slots}
use Rattle.w32_process.specs.ChangeLaws.{processes-with_count}
use Rattle.w32_process.specs.Processes.{processes_of}
use Rattle.w32_process.specs.ThreadLaws.{thread_shown}
use Rattle.w32_machine.specs.Contract.{IsCaller}
use Rattle.w32_machine.specs.declared.caller.Caller.{Caller}
use Rattle.w32_machine.specs.declared.machine.Machine.TheInside.{Inside}
use Rattle.w32_machine.specs.Reached.{Reaches, MissesThread}
use Rattle.w32_machine.specs.Running.{Running}
use Rattle.w32_machine.specs.View.{posted_in, placed_in, view_of}
use Rattle.w32_machine.specs.Sound.{IsSound}
use Rattle.w32_machine.proofs.Called.{formed-effect}
use Rattle.w32_machine.proofs.Keeping.{IsOver, sound-over}
use Rattle.w32_machine.proofs.Reaching.{at, live-found, thread-counted}

module _ (m : Inside) (sound : IsSound m) (slot v : ℕ) (stands : number_at m.processes.slots slot ≡ Some v)
    (place : Place) (stays : place.number ≡ Some v) (f : Process → Process) (life : (p : Process) → (f p).life ≡ p.life)
    (handles : (p : Process) → (f p).handles ≡ p.handles)
    (is : processes_of (posted_in m.posted.items) (placed_in m.placed.items) (with_place m.processes slot place) ≡
    change_process v f (processes_of (posted_in m.posted.items) (placed_in m.placed.items) m.processes)) where
  abbrev pub other_place : Inside
  other_place = record m { processes = with_place m.processes slot place }

  pub over-place : IsOver m other_place
  over-place = record {
    script = refl;
    table = IsSound-same m.processes.next m.processes.slots m.processes.kept slot place
        (within_slots m.processes.slots slot v stands) (stays ∙ sym stands) sound.table;
    slots = length-set {A = Place} m.processes.slots slot place;
    objects = refl;
    section = refl;
    posted = refl;
    placed = refl;
    keys = refl;
    numbers = λ k. number_at-set_kept m.processes.slots slot k place (within_slots m.processes.slots slot v stands)
        (stays ∙ sym stands);
    holders = λ q. ap (λ ps. all_holders_of ps q) is
        ∙ all_holders-keep v f life handles
        (processes_of (posted_in m.posted.items) (placed_in m.placed.items) m.processes) q;
  }

  pub sound-place : IsWellFormed m.script (view_of other_place).win32 → IsSound other_place
  sound-place formed = sound-over m other_place sound over-place formed

-- what misses a thread changes nothing
pub missed-count : (s new : Win32State) (f : ℕ → ℕ) (w h t : ℕ) (r : Reply) → MissesThread s w h t r → new ≡ s
    → MatchOption (process_named (object_by s w h)) (Gives reply.BadHandle s r new) (λ v. CountStep s f v t r new)
missed-count s new f w h t r missed same = by_name (process_named (object_by s w h)) missed
  where
    by_thread : (v : ℕ) (o : Option Thread) → MatchOption o (r ≡ reply.BadIndex) (λ x. ⊥)
        → MatchOption o (Gives reply.BadIndex s r new) (λ x. Gives (reply.Count x.suspended)
        (with_thread s v t (λ y. record y { suspended = f y.suspended })) r new)
    by_thread v None e = (e, same)
    by_thread v (Some x) e = absurd e

    by_life : (v : ℕ) (o : Option Process)
        → MatchOption o (r ≡ reply.Gone) (λ p. MatchOption (thread_in p.threads t) (r ≡ reply.BadIndex) (λ x. ⊥))
        → MatchOption o (Gives reply.Gone s r new) (λ p.
        MatchOption (thread_in p.threads t) (Gives reply.BadIndex s r new) (λ x. Gives (reply.Count x.suspended)
        (with_thread s v t (λ y. record y { suspended = f y.suspended })) r new))
    by_life v None e = (e, same)
    by_life v (Some p) e = by_thread v (thread_in p.threads t) e

    by_name : (o : Option ℕ)
        → MatchOption o (r ≡ reply.BadHandle) (λ v. MatchOption (live_process s v) (r ≡ reply.Gone)
        (λ p. MatchOption (thread_in p.threads t) (r ≡ reply.BadIndex) (λ x. ⊥)))
        → MatchOption o (Gives reply.BadHandle s r new) (λ v. CountStep s f v t r new)
    by_name None e = (e, same)
    by_name (Some v) e = by_life v (live_process s v) e

module _ (m : Inside) (sound : IsSound m) (now : Running) (shows : view_of m ≡ now) (by : Caller)
    (caller : IsCaller now.win32 by) (h slot t old : ℕ) (it : Reaches now.win32 by.process h slot)
    (counted : count_at m.processes.slots slot t ≡ Some old) (f : ℕ → ℕ) where
  stands : number_at m.processes.slots slot ≡ Some it.number
  stands = at m sound now shows slot it.number it.lives

  abbrev pub recounted : Inside
  recounted = record m { processes = with_count m.processes slot t (f old) }

  abbrev change : Process → Process
  change = λ p. record p { threads = change_thread t (λ x. record x { suspended = f x.suspended }) p.threads }

  processes-are : (view_of recounted).win32.processes ≡ change_process it.number change (view_of m).win32.processes
  processes-are =
      processes-with_count (posted_in m.posted.items) (placed_in m.placed.items) m.processes sound.table slot it.number
      stands f t old counted

  after : (view_of recounted).win32 ≡
      with_thread now.win32 it.number t (λ y. record y { suspended = f y.suspended })
  after =
      ap (λ (ps : List Process). record (view_of m).win32 { processes = ps }) processes-are
      ∙ ap (λ (r : Running). with_thread r.win32 it.number t (λ y. record y { suspended = f y.suspended })) shows

  pub count-step : (r : Reply) → r ≡ reply.Count old
      → MatchOption (process_named (object_by now.win32 by.process h))
      (Gives reply.BadHandle now.win32 r (view_of recounted).win32)
      (λ v. CountStep now.win32 f v t r (view_of recounted).win32)
  count-step r e =
      subst (λ o. MatchOption o (Gives reply.BadHandle now.win32 r (view_of recounted).win32)
      (λ v. CountStep now.win32 f v t r (view_of recounted).win32)) (sym it.named)
      (subst (λ o. MatchOption o (Gives reply.Gone now.win32 r (view_of recounted).win32)
      (λ p. MatchOption (thread_in p.threads t) (Gives reply.BadIndex now.win32 r (view_of recounted).win32)
      (λ x. Gives (reply.Count x.suspended)
      (with_thread now.win32 it.number t (λ y. record y { suspended = f y.suspended })) r (view_of recounted).win32)))
      (sym (live-found m sound now shows slot it.number it.lives))
      (subst (λ o. MatchOption o (Gives reply.BadIndex now.win32 r (view_of recounted).win32)
      (λ x. Gives (reply.Count x.suspended)
      (with_thread now.win32 it.number t (λ y. record y { suspended = f y.suspended })) r (view_of recounted).win32))
      (sym (thread-counted m sound now shows slot it.number it.lives t
      ∙ ap (thread_shown (posted_in m.posted.items slot) t) counted))
      (e, after)))

  pub count-sound : IsWellFormed m.script (view_of recounted).win32 → IsSound recounted
  count-sound formed =
      sound-place m sound slot it.number stands
      (record (place_at m.processes.slots slot) {
        suspended = slice_set (place_at m.processes.slots slot).suspended t (f old);
      }) stands change (λ p. refl) (λ p. refl) processes-are formed

-- Each of the two calls, on the thread with number u.
module _ (m : Inside) (sound : IsSound m) (now : Running) (shows : view_of m ≡ now) (by : Caller)
    (caller : IsCaller now.win32 by) (h slot t u old : ℕ) (same : t ≡ u) (it : Reaches now.win32 by.process h slot)
    (counted : count_at m.processes.slots slot t ≡ Some old) (table : Table) where
  resume-before : table ≡ with_count m.processes slot t (resumed old)
      → ResumeStep now.win32 by.process h t (reply.Count old) (view_of (record m { processes = table })).win32
  resume-before e =
      subst (λ (p : Table). ResumeStep now.win32 by.process h t (reply.Count old)
      (view_of (record m { processes = p })).win32) (sym e)
      (count-step m sound now shows by caller h slot t old it counted resumed (reply.Count old) refl)

  pub resume-step : table ≡ with_count m.processes slot t (resumed old)
      → ResumeStep now.win32 by.process h u (reply.Count old) (view_of (record m { processes = table })).win32
  resume-step e =
      subst (λ i. ResumeStep now.win32 by.process h i (reply.Count old)
      (view_of (record m { processes = table })).win32) same (resume-before e)

  pub resume-sound : table ≡ with_count m.processes slot t (resumed old) → IsSound (record m { processes = table })
  resume-sound e =
      subst (λ (p : Table). IsSound (record m { processes = p })) (sym e)
      (count-sound m sound now shows by caller h slot t old it counted resumed
      (formed-effect m sound now shows by caller by.thread caller.thread (call.Resume h t) _
      (resume_effect m.script now.win32 by.process by.thread h t (reply.Count old) _
      (count-step m sound now shows by caller h slot t old it counted resumed (reply.Count old) refl))))

  suspend-before : table ≡ with_count m.processes slot t (suspended_more old)
      → SuspendStep now.win32 by.process h t (reply.Count old) (view_of (record m { processes = table })).win32
  suspend-before e =
      subst (λ (p : Table). SuspendStep now.win32 by.process h t (reply.Count old)
      (view_of (record m { processes = p })).win32) (sym e)
      (count-step m sound now shows by caller h slot t old it counted suspended_more (reply.Count old) refl)

  pub suspend-step : table ≡ with_count m.processes slot t (suspended_more old)
      → SuspendStep now.win32 by.process h u (reply.Count old) (view_of (record m { processes = table })).win32
  suspend-step e =
      subst (λ i. SuspendStep now.win32 by.process h i (reply.Count old)
      (view_of (record m { processes = table })).win32) same (suspend-before e)

  pub suspend-sound : table ≡ with_count m.processes slot t (suspended_more old)
      → IsSound (record m { processes = table })
  suspend-sound e =
      subst (λ (p : Table). IsSound (record m { processes = p })) (sym e)
      (count-sound m sound now shows by caller h slot t old it counted suspended_more
      (formed-effect m sound now shows by caller by.thread caller.thread (call.Suspend h t) _
      (suspend_effect m.script now.win32 by.process by.thread h t (reply.Count old) _
      (count-step m sound now shows by caller h slot t old it counted suspended_more (reply.Count old) refl))))
