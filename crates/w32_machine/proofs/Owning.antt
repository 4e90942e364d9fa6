-- Other bytes of the process in a slot.
use Rattle.std.proofs.Common.{◌≡◌, ◌∙◌, ℕ, ◌<◌, List, length, Some, IsSome, refl, sym, ap, subst, arith}
use Rattle.w32_base.specs.Part.{KeepsLengths}
use Rattle.w32_base.specs.declared.own.Own.{Own}
use Rattle.w32_base.specs.declared.call.Call.{Call}
use Rattle.w32_base.specs.declared.call.Reply.{Reply}
use Rattle.w32_base.specs.declared.part.After.{After}
use Rattle.w32_base.specs.declared.setup.Setup.{Setup}
use Rattle.win32_spec.specs.Driven.{PartGoes}
use Rattle.win32_spec.specs.Run.{Posts}
use Rattle.win32_spec.specs.State.{Process, Win32State}
use Rattle.win32_spec.specs.Lookup.{change_process, memory_by, number_in, with_own, process_in, thread_of, thread_at}
use Rattle.win32_spec.specs.Lookup.{with_posted}
use Rattle.win32_spec.specs.StepLaws.{own_tame}
use Rattle.win32_spec.specs.TameLaws.{wellformed-tame}
use Rattle.win32_spec.specs.WellFormed.{IsWellFormed}
use Rattle.win32_spec.specs.Pipes.{all_holders_of}
use Rattle.std.proofs.lemmas.List.{length-set}
use Rattle.w32_handles.specs.CountLaws.{all_holders-keep}
use Rattle.w32_process.specs.Places.{Place}
use Rattle.w32_process.specs.Table as processes
use Rattle.w32_process.specs.Table.{place_at, number_at}
use Rattle.w32_process.specs.SoundLaws.{IsSound-same, within_slots, number_at-set_kept}
use Rattle.w32_process.specs.ChangeLaws.{processes-with_own}
use Rattle.w32_machine.specs.declared.machine.Machine.TheInside.{Inside}
use Rattle.w32_machine.specs.Running.{Running}
use Rattle.w32_machine.specs.View.{posted_in, placed_in, view_of}
use Rattle.w32_machine.specs.Sound.{IsSound}
use Rattle.w32_machine.proofs.Slots.{live}
use Rattle.w32_machine.specs.Lent.{IsAnswer}
use Rattle.w32_machine.proofs.Keeping.{sound-over}
use Rattle.w32_machine.specs.NumberLaws.{change-here, number_found}

module _ (m : Inside) (sound : IsSound m) (slot w : ℕ) (at : number_at m.processes.slots slot ≡ Some w) (own : Own)
  where
    abbrev pub owning : Inside
    owning = record m { processes = processes.with_own m.processes slot own }

    its_processes : (view_of owning).win32.processes ≡
        change_process w (λ p. record p { own = own }) (view_of m).win32.processes
    its_processes =
        processes-with_own (posted_in m.posted.items) (placed_in m.placed.items) m.processes sound.table slot w at own

    pub owning-is : (view_of owning).win32 ≡ with_own (view_of m).win32 w own
    owning-is = ap (λ (ps : List Process). record (view_of m).win32 { processes = ps }) its_processes

    abbrev its_place : Place
    its_place = record (place_at m.processes.slots slot) { own = own }

    within : slot < length m.processes.slots
    within = within_slots m.processes.slots slot w at

    pub owning-sound : KeepsLengths (memory_by (view_of m).win32 w) own → IsSound owning
    owning-sound lengths =
        sound-over m owning sound
        (record {
          script = refl;
          table = IsSound-same m.processes.next m.processes.slots m.processes.kept slot its_place within refl
              sound.table;
          slots = length-set {A = Place} m.processes.slots slot its_place;
          objects = refl;
          section = refl;
          posted = refl;
          placed = refl;
          keys = refl;
          numbers = λ k. number_at-set_kept m.processes.slots slot k its_place within refl;
          holders = λ q. ap (λ ps. all_holders_of ps q) its_processes
              ∙ all_holders-keep w (λ p. record p { own = own }) (λ p. refl) (λ p. refl) (view_of m).win32.processes q;
        })
        (subst (IsWellFormed m.script) (sym owning-is)
        (wellformed-tame m.script (λ v. v ≡ w) ⊥ (Unit {0}) w 0 (view_of m).win32
        (with_own (view_of m).win32 w own) sound.state
        (own_tame m.script (view_of m).win32 w 0 own (live m sound slot w at) lengths) (live m sound slot w at)
        (omega arith)))

-- A part that answered over other bytes of its process, and whose next call is posted, has gone on.
module _ {P : Type 0} (posted_of : P → Call) (goes : P → Own → Setup → Reply → P → Own → After → Type 0)
    (opening : P → Type 0) (slot_of thread_of_part : P → ℕ) (old mid : Running) (slot t w : ℕ)
    (stands : number_in old.win32 slot ≡ Some w) (part next : P) (reply : Reply) (answer : After)
    (did : IsAnswer goes old w part reply next answer mid) where
  its : (p : Process) × (process_in old.win32.processes slot ≡ Some p) × (p.number ≡ w)
  its = number_found (process_in old.win32.processes slot) w stands

  there : process_in mid.win32.processes slot ≡ Some (record its.0 { own = did.own })
  there =
      ap (λ (n : Win32State). process_in n.processes slot) did.after
      ∙ change-here w (λ p. record p { own = did.own }) (λ p. refl) (λ p. refl) old.win32.processes slot its.0 its.1
      its.2

  pub own-thread : IsSome (thread_at old.win32 slot t) → IsSome (thread_at mid.win32 slot t)
  own-thread some =
      subst (λ o. IsSome (thread_of o t)) (sym there) (subst (λ o. IsSome (thread_of o t)) its.1 some)

  pub own-goes : (new : Win32State) → Posts mid.win32 slot t (posted_of next) new
      → PartGoes posted_of goes opening slot_of thread_of_part old.script old.win32 w t part reply answer.event next new
  own-goes new posts = record {
    own = did.own;
    answer = answer;
    went = did.went;
    told = refl;
    after = posts (record its.0 { own = did.own }) there
        ∙ ap (λ n. with_posted mid.win32 n t (posted_of next)) its.2
        ∙ ap (λ (n : Win32State). with_posted n w t (posted_of next)) did.after;
  }
