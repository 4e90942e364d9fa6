-- What the processes of a machine are, slot by slot.
use Rattle.std.proofs.Common.{◌≡◌, ◌∙◌, ℕ, true, Option, Some, None, IsSome, refl, sym, ap}
use Rattle.std.proofs.Common.{subst}
use Rattle.win32_spec.specs.Handles.{AreRisingFrom}
use Rattle.win32_spec.specs.State.{Process}
use Rattle.win32_spec.specs.Lookup.{process_of, process_in, is_live, number_of}
use Rattle.win32_spec.specs.Lookup.{number_in}
use Rattle.win32_spec.specs.Lookup.{memory_of, memory_by}
use Rattle.win32_spec.specs.Named.{handles_of, handles_by}
use Rattle.win32_spec.specs.MemoryCalls.{program_no_of, program_no_by}
use Rattle.win32_spec.specs.WellFormed.{IsLiveProcess}
use Rattle.win32_spec.specs.FormedLaws.{of_live}
use Rattle.w32_process.specs.Table.{place_at, number_at}
use Rattle.w32_process.specs.Processes.{live_process}
use Rattle.w32_process.specs.FoundLaws.{shown, process_in-at, process_in-live, process_of-live, is_live-at}
use Rattle.w32_machine.specs.Contract.{own_in}
use Rattle.w32_machine.specs.declared.machine.Machine.TheInside.{Inside}
use Rattle.w32_machine.specs.Running.{Running}
use Rattle.w32_machine.specs.View.{posted_in, placed_in, view_of}
use Rattle.w32_machine.specs.Sound.{IsSound}

module _ (m : Inside) (sound : IsSound m) where
  -- the number in a slot
  pub number_in-at : (slot : ℕ) → number_in (view_of m).win32 slot ≡ number_at m.processes.slots slot
  number_in-at slot =
      ap number_of (process_in-at (posted_in m.posted.items) (placed_in m.placed.items) m.processes sound.table slot)
      ∙ by_number (number_at m.processes.slots slot)
    where
      by_number : (o : Option ℕ)
          → number_of (shown (posted_in m.posted.items) (placed_in m.placed.items) slot
          (place_at m.processes.slots slot) o) ≡ o
      by_number None = refl
      by_number (Some w) = refl

  -- the memory in a slot that has a process, and in one that has none
  pub own_in-at : (slot w : ℕ) → number_at m.processes.slots slot ≡ Some w
      → own_in (process_in (view_of m).win32.processes slot) ≡ Some (place_at m.processes.slots slot).own
  own_in-at slot w at =
      ap own_in (process_in-live (posted_in m.posted.items) (placed_in m.placed.items) m.processes sound.table slot w
      at)

  pub own_in-none : (slot : ℕ) → number_at m.processes.slots slot ≡ None
      → own_in (process_in (view_of m).win32.processes slot) ≡ None
  own_in-none slot at =
      ap own_in (process_in-at (posted_in m.posted.items) (placed_in m.placed.items) m.processes sound.table slot
      ∙ ap (shown (posted_in m.posted.items) (placed_in m.placed.items) slot (place_at m.processes.slots slot)) at)

  -- The live process w in a slot.
  module _ (slot w : ℕ) (at : number_at m.processes.slots slot ≡ Some w) where
    abbrev pub its_process : Process
    its_process = live_process (posted_in m.posted.items) (placed_in m.placed.items) slot w
        (place_at m.processes.slots slot)

    pub found : process_of (view_of m).win32.processes w ≡ Some its_process
    found = process_of-live (posted_in m.posted.items) (placed_in m.placed.items) m.processes sound.table slot w at

    pub found_in : process_in (view_of m).win32.processes slot ≡ Some its_process
    found_in = process_in-live (posted_in m.posted.items) (placed_in m.placed.items) m.processes sound.table slot w at

    pub live : is_live (process_of (view_of m).win32.processes w) ≡ true
    live = is_live-at (posted_in m.posted.items) (placed_in m.placed.items) m.processes sound.table slot w at

    pub handles_at : handles_by (view_of m).win32 w ≡ (place_at m.processes.slots slot).handles
    handles_at = ap handles_of found

    pub memory_at : memory_by (view_of m).win32 w ≡ (place_at m.processes.slots slot).own
    memory_at = ap memory_of found

    pub program_at : program_no_by (view_of m).win32 w ≡ (place_at m.processes.slots slot).program
    program_at = ap program_no_of found

    pub its_facts : IsLiveProcess m.script (view_of m).win32.objects its_process
    its_facts = of_live m.script (view_of m).win32.objects its_process its_process.life refl
        (sound.state.formed.process w its_process found)

    pub rising_at : AreRisingFrom 1 (place_at m.processes.slots slot).handles
    rising_at = its_facts.rising

  -- the process of a caller stands in its slot
  pub caller-at : (now : Running) → view_of m ≡ now → (slot w : ℕ) → number_in now.win32 slot ≡ Some w
      → number_at m.processes.slots slot ≡ Some w
  caller-at now e slot w by = sym (number_in-at slot)
      ∙ subst (λ (r : Running). number_in r.win32 slot ≡ Some w) (sym e) by

pub is_there : (o : Option ℕ) (w : ℕ) → o ≡ Some w → IsSome o
is_there o w e = rw e refl
