-- The handles of a process closed one after another, and its end.
use Rattle.std.proofs.Common.{◌≡◌, ◌∙◌, ℕ, ◌+◌, true, false, [], Option, Some, None, MatchOption, refl, sym, ap, subst}
use Rattle.w32_base.specs.declared.call.Reply.{Reply}
use Rattle.w32_base.specs.declared.call.Reply.TheVariants as reply
use Rattle.w32_base.specs.declared.entry.Outcome.TheVariants as outcome
use Rattle.win32_spec.specs.Handles.{without_handle}
use Rattle.win32_spec.specs.State.{Process, Win32State}
use Rattle.win32_spec.specs.Lookup.{process_of, is_live, number_of, number_in, with_handles}
use Rattle.win32_spec.specs.Ends.{swept, with_end}
use Rattle.win32_spec.specs.HandleCalls.{CloseStep}
use Rattle.win32_spec.specs.Named.{handles_of, handles_by, named_by, object_by, process_named, Gives}
use Rattle.win32_spec.specs.ProcessCalls.{TerminateStep}
use Rattle.win32_spec.specs.Run.{ended_from_outside, EndStep}
use Rattle.win32_spec.specs.WellFormed.{IsWellFormed}
use Rattle.w32_process.specs.Table.{place_at, number_at}
use Rattle.w32_process.specs.StateClosing.{IsClosing, closing-start, closing-absent, closing-next, closing-all}
use Rattle.w32_process.specs.StateClosing.{closing-empty, number_in-closing}
use Rattle.w32_process.specs.EndingLaws.{ending-closed}
use Rattle.w32_machine.specs.declared.machine.Machine.TheInside.{Inside}
use Rattle.w32_machine.specs.Running.{Running}
use Rattle.w32_machine.specs.View.{view_of}
use Rattle.w32_machine.specs.Sound.{IsSound}
use Rattle.w32_machine.proofs.Slots.{its_process, found, handles_at, caller-at}

-- the process w of a slot
module _ (m : Inside) (sound : IsSound m) (now : Running) (shows : view_of m ≡ now) (slot w : ℕ)
    (there : number_in now.win32 slot ≡ Some w) where
  pub stands : number_at m.processes.slots slot ≡ Some w
  stands = caller-at m sound now shows slot w there

  formed : IsWellFormed m.script now.win32
  formed = subst (λ (r : Running). IsWellFormed m.script r.win32) shows sound.state

  abbrev it : Process
  it = its_process m sound slot w stands

  its : process_of now.win32.processes w ≡ Some it
  its = ap (λ (r : Running). process_of r.win32.processes w) (sym shows) ∙ found m sound slot w stands

  -- its handles are those of its place
  pub no_handles : handles_by now.win32 w ≡ [] → (place_at m.processes.slots slot).handles ≡ []
  no_handles none =
      sym (handles_at m sound slot w stands) ∙ ap (λ (r : Running). handles_by r.win32 w) shows ∙ none

  -- one handle after another
  pub start : IsClosing now.win32 now.win32 w 1
  start = closing-start m.script now.win32 formed w it its refl

  pub next : (mid new : Win32State) (k : ℕ) (r : Reply) → IsClosing now.win32 mid w k → CloseStep mid w k r new
      → IsClosing now.win32 new w (k + 1)
  next mid new k r c step = by_named (named_by mid w k) refl step
    where
      by_named : (o : Option ℕ) → named_by mid w k ≡ o
          → MatchOption o (Gives reply.BadHandle mid r new) (λ names.
          Gives reply.Done (swept (with_handles mid w (without_handle (handles_by mid w) k))) r new)
          → IsClosing now.win32 new w (k + 1)
      by_named None e g =
          subst (λ s. IsClosing now.win32 s w (k + 1)) (sym g.1)
          (closing-absent m.script now.win32 formed w it its refl mid k c e)
      by_named (Some names) e g = closing-next m.script now.win32 formed w it its refl mid new k c g.1

  pub next_at : (mid new : Win32State) (k : ℕ) (r : Reply) (h : ℕ) → h ≡ k → IsClosing now.win32 mid w k
      → CloseStep mid w h r new
      → IsClosing now.win32 new w (k + 1)
  next_at mid new k r h e c step = next mid new k r c (subst (λ j. CloseStep mid w j r new) e step)

  pub stays : (mid : Win32State) (k : ℕ) → IsClosing now.win32 mid w k → number_in mid slot ≡ Some w
  stays mid k c = number_in-closing now.win32 mid w k slot c ∙ there

  pub all : (mid : Win32State) → IsClosing now.win32 mid w 65 → mid ≡ swept (with_handles now.win32 w [])
  all mid c = closing-all m.script now.win32 formed w it its refl mid c

  pub none_left : (mid : Win32State) → IsClosing now.win32 mid w 65 → handles_by mid w ≡ []
  none_left mid c = ap handles_of (closing-empty m.script now.win32 formed w it its refl mid c)

  -- the end then is the end at once
  pub ended : (mid : Win32State) (code : ℕ) → mid ≡ swept (with_handles now.win32 w [])
      → with_end mid w code ≡ with_end now.win32 w code
  ended mid code e =
      ap (λ (s : Win32State). with_end s w code) e ∙ ending-closed m.script now.win32 formed w code it its refl

-- what an end is of the calls
pub terminated : (s : Win32State) (w h v code : ℕ) (new : Win32State) → process_named (object_by s w h) ≡ Some v
    → is_live (process_of s.processes v) ≡ true → new ≡ with_end s v code
    → TerminateStep s w h code reply.Done new
terminated s w h v code new named live e = rw (named, live) (refl, e)

pub was-gone : (s : Win32State) (w h v code : ℕ) → process_named (object_by s w h) ≡ Some v
    → is_live (process_of s.processes v) ≡ false
    → TerminateStep s w h code reply.Gone s
was-gone s w h v code named dead = rw (named, dead) (refl, refl)

pub no-process : (s : Win32State) (w h code : ℕ) → process_named (object_by s w h) ≡ None
    → TerminateStep s w h code reply.BadHandle s
no-process s w h code named = rw named (refl, refl)

pub end-some : (s new : Win32State) (o : Option Process) (w : ℕ) → number_of o ≡ Some w
    → new ≡ with_end s w ended_from_outside → EndStep s o (outcome.Ended w) new
end-some s new None w e is = absurd (cc)
end-some s new (Some p) w e is =
    let n : p.number ≡ w = cc in
    (ap (λ v. outcome.Ended v) (sym n), is ∙ ap (λ v. with_end s v ended_from_outside) (sym n))

pub end-none : (s : Win32State) (o : Option Process) → number_of o ≡ None → EndStep s o outcome.Idle s
end-none s None e = (refl, refl)
end-none s (Some p) e = absurd (cc)
