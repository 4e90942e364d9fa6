-- The machine's tables as a run begins show the opening state, and are sound.
use Rattle.std.proofs.Common.{◌≡◌, ◌∙◌, ℕ, zero, suc, ◌+◌, ◌-◌, ◌*◌, ◌≤◌, List, [], ◌∷◌, length}
use Rattle.std.proofs.Common.{replicate, Option, Some, refl, sym, ap, subst, arith}
use Rattle.std.proofs.lemmas.List.{length-replicate}
use Rattle.std.specs.VecDeque.{deque_capacity}
use Rattle.w32_base.specs.declared.entry.Directive.TheVariants as directive
use Rattle.w32_base.specs.declared.setup.Program.{Program}
use Rattle.script_spec.specs.declared.script.ScheduleLine.{ScheduleLine}
use Rattle.script_spec.specs.declared.script.ScheduleLine.TheVariants as line
use Rattle.script_spec.specs.declared.script.Script.{Script}
use Rattle.win32_spec.specs.Lookup.{object_number}
use Rattle.win32_spec.specs.Making.{opening_call}
use Rattle.win32_spec.specs.Opening.{ArePlaced, opening_host, opening_process, opening_objects, opening, IsOpening}
use Rattle.win32_spec.specs.OpeningLaws.{wellformed-opening}
use Rattle.win32_spec.specs.State.{PlacedModule, Process, NumberedObject, Win32State}
use Rattle.win32_spec.specs.WellFormed.{IsWellFormed}
use Rattle.w32_handles.specs.Shown.{objects_of}
use Rattle.w32_handles.specs.Table.{HeldObject, object_at}
use Rattle.w32_process.specs.Places.{Place, empty_place}
use Rattle.w32_process.specs.Processes.{processes_of}
use Rattle.w32_process.specs.Sound as processes
use Rattle.w32_process.specs.Table as process_table
use Rattle.w32_process.specs.Table.{number_at}
use Rattle.w32_kinds.specs.declared.kind.Kind.{Kind}
use Rattle.w32_machine.specs.declared.machine.Machine.TheInside.{Inside}
use Rattle.w32_opening.specs.declared.numbers.Numbers.{Numbers}
use Rattle.w32_machine.specs.Contract.{key_lines}
use Rattle.w32_opening.specs.Opened.{opening_numbers, opened_host, opened_place, IsOpenedTable, kept_shown}
use Rattle.w32_opening.specs.Opened.{opening_at}
use Rattle.w32_machine.specs.Sound.{IsHeld, IsSound}
use Rattle.w32_kinds.specs.Shown.{shown}
use Rattle.w32_machine.specs.View.{posted_in, placed_in, view_of}
use Rattle.w32_machine.proofs.FirstHeld.{first-held}
use Rattle.w32_machine.proofs.FirstShown.{posts-opening, shows-objects, shows-processes}

-- a schedule has no more lines with a key than lines
few-keys : (lines : List ScheduleLine) → key_lines lines ≤ length lines
few-keys [] = omega arith
few-keys (line.Given (directive.Turn slot t) ∷ lines) = omega (arith, few-keys lines)
few-keys (line.Given (directive.End slot) ∷ lines) = omega (arith, few-keys lines)
few-keys (line.Given (directive.Key b) ∷ lines) = omega (arith, few-keys lines)
few-keys (line.Steps n ∷ lines) = omega (arith, few-keys lines)
few-keys (line.Settle ∷ lines) = omega (arith, few-keys lines)

-- process 2 stands in slot 1 alone
empty-number : (count k n : ℕ) → number_at (replicate count empty_place) k ≡ Some n → ⊥
empty-number zero k n e = absurd (cc)
empty-number (suc count) zero n e = absurd (cc)
empty-number (suc count) (suc k) n e = empty-number count k n e

second-alone : (host layer : Place) (count k : ℕ) → host.number ≡ Some 1
    → number_at (host ∷ layer ∷ replicate count empty_place) k ≡ Some 2 → k ≡ 1
second-alone host layer count zero one e = absurd (let f : Some 1 ≡ Some 2 = sym one ∙ e in cc)
second-alone host layer count (suc zero) one e = refl
second-alone host layer count (suc (suc k)) one e = absurd (empty-number count k 2 e)

-- The tables of a run of this script, with these numbers of the objects and these modules.
pub record IsFirst (script : Script) (n : Numbers) (placed : List PlacedModule) (m : Inside) : Type 0 where
  pub script_is : m.script ≡ script
  pub in_order : ArePlaced script 1 0 script.setup.modules [] placed
  pub few_modules : length script.setup.modules ≤ 8
  pub table : IsOpenedTable script (opening_numbers n) placed m.processes
  pub table_sound : processes.IsSound m.processes
  pub objects : (o : ℕ) → kept_shown (object_at m.objects o) ≡ opening_at n o
  pub spare : m.objects.spare + 4 ≡ 4160
  pub section : m.section ≡ n.section
  pub threads : ℕ
  pub posted : m.posted.items ≡ replicate threads opening_call
  pub three_a_slot : threads ≡ 3 * (script.setup.limits.slots + 1)
  pub others : ℕ
  pub placed_in_slots : m.placed.items ≡ [] ∷ placed ∷ replicate others []
  pub other_slots : others + 1 ≡ script.setup.limits.slots
  pub no_keys : m.keys.items ≡ []
  pub keys_room : length script.directives ≤ deque_capacity m.keys

abbrev state_of : List Process → List NumberedObject → ℕ → List ℕ → Win32State
state_of ps xs next keys = record { processes = ps; objects = xs; next = next; keys = keys }

same-state : (ps qs : List Process) (xs ys : List NumberedObject) (i j : ℕ) (ks ls : List ℕ) → ps ≡ qs → xs ≡ ys
    → i ≡ j → ks ≡ ls → state_of ps xs i ks ≡ state_of qs ys j ls
same-state ps qs xs ys i j ks ls a b c d = cc

module _ (script : Script) (n : Numbers) (placed : List PlacedModule) (m : Inside)
    (first : IsFirst script n placed m) where
  abbrev program : Program
  program = first.table.program

  abbrev slots : ℕ
  slots = script.setup.limits.slots

  shows_processes : (view_of m).win32.processes
      ≡ opening_host (opening_numbers n) ∷ opening_process (opening_numbers n) program placed ∷ []
  shows_processes =
      ap (λ (t : process_table.Table). processes_of (posted_in m.posted.items) (placed_in m.placed.items) t)
      first.table.table
      ∙ shows-processes (posted_in m.posted.items) (placed_in m.placed.items) slots (opening_numbers n) program placed
      (λ slot t. ap (λ calls. posted_in calls slot t) first.posted ∙ posts-opening first.threads slot t)
      (ap (λ (ms : List (List PlacedModule)). placed_in ms 0) first.placed_in_slots)
      (ap (λ (ms : List (List PlacedModule)). placed_in ms 1) first.placed_in_slots)

  shows_objects : (view_of m).win32.objects ≡ opening_objects (opening_numbers n)
  shows_objects = shows-objects n m.objects first.objects

  shows_next : (view_of m).win32.next ≡ 3
  shows_next = ap (λ (t : process_table.Table). t.next) first.table.table

  shows_state : (view_of m).win32 ≡ opening (opening_numbers n) program placed
  shows_state = same-state _ _ _ _ _ _ _ _ shows_processes shows_objects shows_next first.no_keys

  pub is-opening : IsOpening script (view_of m).win32
  is-opening = record {
    program = program;
    first = first.table.first;
    placed = placed;
    in_order = first.in_order;
    numbers = opening_numbers n;
    state = shows_state;
  }

  state_formed : IsWellFormed m.script (view_of m).win32
  state_formed =
      subst (λ s. IsWellFormed s (view_of m).win32) (sym first.script_is)
      (wellformed-opening script (view_of m).win32 first.few_modules is-opening)

  many_slots : length m.processes.slots ≡ slots + 1
  many_slots =
      omega (
        arith,
        ap (λ (t : process_table.Table). length t.slots) first.table.table,
        length-replicate {A = Place} (slots - 1) empty_place,
        script.setup.limits.slots_in_range.0,
      )

  posted_length : length m.posted.items ≡ 3 * length m.processes.slots
  posted_length =
      omega (
        arith,
        ap (λ (calls : List _). length calls) first.posted,
        length-replicate first.threads opening_call,
        first.three_a_slot,
        many_slots,
      )

  placed_length : length m.placed.items ≡ length m.processes.slots
  placed_length =
      omega (
        arith,
        ap (λ (ms : List (List PlacedModule)). length ms) first.placed_in_slots,
        length-replicate {A = List PlacedModule} first.others [],
        first.other_slots,
        many_slots,
      )

  second : (k : ℕ) → number_at m.processes.slots k ≡ Some 2 → k ≡ 1
  second k e =
      second-alone (opened_host (opening_numbers n)) (opened_place (opening_numbers n) program placed) (slots - 1) k
      refl
      (ap (λ (t : process_table.Table). number_at t.slots k) (sym first.table.table) ∙ e)

  held : (o : ℕ) (kept : HeldObject Kind) → object_at m.objects o ≡ Some kept
      → IsHeld m.processes.slots (view_of m).win32.processes m.section (object_number o) kept
  held o kept at =
      subst (λ section. IsHeld m.processes.slots (view_of m).win32.processes section (object_number o) kept)
      (sym first.section)
      (subst (λ (ps : List Process). IsHeld m.processes.slots ps n.section (object_number o) kept) (sym shows_processes)
      (first-held n program placed m.processes.slots second m.objects first.objects o kept at))

  room : 4160 ≤ length (view_of m).win32.objects + m.objects.spare
  room = omega (arith, ap (λ (xs : List NumberedObject). length xs) shows_objects, first.spare)

  keys : key_lines m.script.directives ≤ deque_capacity m.keys
  keys =
      subst (λ (s : Script). key_lines s.directives ≤ deque_capacity m.keys) (sym first.script_is)
      (omega (arith, few-keys script.directives, first.keys_room))

  pub is-sound : IsSound m
  is-sound = record {
    state = state_formed;
    table = first.table_sound;
    slots = many_slots ∙ ap (λ (s : Script). s.setup.limits.slots + 1) (sym first.script_is);
    posted = posted_length;
    placed = placed_length;
    held = held;
    room = room;
    keys = keys;
  }

  -- the same of the tables as the code has them
  pub is-opening-by : (t : process_table.Table) (places : List (Option (HeldObject Kind))) → t ≡ m.processes
      → places ≡ m.objects.places
      → IsOpening script (record {
        processes = processes_of (posted_in m.posted.items) (placed_in m.placed.items) t;
        objects = objects_of shown places;
        next = t.next;
        keys = m.keys.items;
      })
  is-opening-by t places e f = rw (e, f) is-opening
