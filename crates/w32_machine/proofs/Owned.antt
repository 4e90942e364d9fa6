-- Other bytes in the memory of a live process leave the tables sound.
use Rattle.std.proofs.Common.{◌≡◌, ℕ, List, Some, refl, sym, ap, subst, arith}
use Rattle.std.proofs.lemmas.List.{set-get_or}
use Rattle.w32_base.specs.Part.{KeepsLengths}
use Rattle.w32_base.specs.declared.own.Own.{Own}
use Rattle.win32_spec.specs.State.{Process}
use Rattle.win32_spec.specs.Lookup.{change_process, with_own}
use Rattle.win32_spec.specs.StepLaws.{own_tame}
use Rattle.win32_spec.specs.TameLaws.{wellformed-tame}
use Rattle.win32_spec.specs.WellFormed.{IsWellFormed}
use Rattle.w32_process.specs.Places.{Place, empty_place}
use Rattle.w32_process.specs.Table.{Table, place_at, number_at}
use Rattle.w32_process.specs.Table as table
use Rattle.w32_process.specs.ChangeLaws.{processes-with_own}
use Rattle.w32_machine.specs.declared.machine.Machine.TheInside.{Inside}
use Rattle.w32_machine.specs.View.{posted_in, placed_in, view_of}
use Rattle.w32_machine.specs.Sound.{IsSound}
use Rattle.w32_machine.proofs.Counting.{sound-place}
use Rattle.w32_machine.proofs.Slots.{live, memory_at}

-- the same bytes again
pub own-same : (t : Table) (slot : ℕ) → table.with_own t slot (place_at t.slots slot).own ≡ t
own-same t slot = ap (λ (slots : List Place). record t { slots = slots }) (set-get_or t.slots slot empty_place)

module _ (m : Inside) (sound : IsSound m) (slot v : ℕ) (stands : number_at m.processes.slots slot ≡ Some v) (own : Own)
  where
    abbrev pub owned : Inside
    owned = record m { processes = table.with_own m.processes slot own }

    processes-are : (view_of owned).win32.processes ≡
        change_process v (λ p. record p { own = own }) (view_of m).win32.processes
    processes-are =
        processes-with_own (posted_in m.posted.items) (placed_in m.placed.items) m.processes sound.table slot v stands
        own

    pub owned-is : (view_of owned).win32 ≡ with_own (view_of m).win32 v own
    owned-is = ap (λ (ps : List Process). record (view_of m).win32 { processes = ps }) processes-are

    pub owned-sound : KeepsLengths (place_at m.processes.slots slot).own own → IsSound owned
    owned-sound lengths =
        sound-place m sound slot v stands (record (place_at m.processes.slots slot) { own = own }) stands
        (λ p. record p { own = own }) (λ p. refl) (λ p. refl) processes-are
        (subst (IsWellFormed m.script) (sym owned-is)
        (wellformed-tame m.script (λ u. u ≡ v) ⊥ (Unit {0}) v 0 (view_of m).win32
        (with_own (view_of m).win32 v own) sound.state
        (own_tame m.script (view_of m).win32 v 0 own (live m sound slot v stands)
        (subst (λ o. KeepsLengths o own) (sym (memory_at m sound slot v stands)) lengths))
        (live m sound slot v stands) (omega arith)))
