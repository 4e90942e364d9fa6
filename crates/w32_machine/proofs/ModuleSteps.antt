-- A module that is placed in the caller's process.
use Rattle.std.proofs.Common.{◌≡◌, ◌≢◌, ◌∙◌, inl, inr, not, ℕ, zero, suc, ◌-◌, ◌<◌, ◌≤◌, Bool, true, false, ◌||◌, eqb}
use Rattle.std.proofs.Common.{List, [], ◌∷◌, length, Option, Some, None, is_some}
use Rattle.std.proofs.Common.{slice_get, slice_set, slice_index_or, get_or, refl, sym, ap, subst, arith}
use Rattle.std.proofs.lemmas.Bool.{cases_eq, eqb-true}
use Rattle.std.proofs.lemmas.List.{length-set, get_or-set_same, get_or-set_other, get_or_read}
use Rattle.std.proofs.lemmas.Map.Steps.{length-le_from_distinct_below}
use Rattle.std.specs.List.{IsDistinct, AllByRecursion, list_any}
use Rattle.std.specs.Vec.{with_item}
use Rattle.w32_base.specs.declared.call.Call.TheVariants as call
use Rattle.w32_base.specs.declared.call.Reply.TheVariants as reply
use Rattle.w32_base.specs.declared.setup.Module.{Module}
use Rattle.script_spec.specs.declared.script.Script.{Script}
use Rattle.win32_spec.specs.State.{PlacedModule, Process}
use Rattle.win32_spec.specs.Lookup.{process_of, is_live, change_process, with_process}
use Rattle.win32_spec.specs.LookupLaws.{same, differs}
use Rattle.win32_spec.specs.MemoryCalls.{program_no_by}
use Rattle.win32_spec.specs.Pipes.{all_holders_of}
use Rattle.win32_spec.specs.PlaceEffects.{module_effect}
use Rattle.win32_spec.specs.Placing.{base_in, placed_of, placed_by, and_placed, creation_of, taken_pages, Places}
use Rattle.win32_spec.specs.Placing.{ModuleStep}
use Rattle.win32_spec.specs.Regions.{IsPlaceFor}
use Rattle.win32_spec.specs.WellFormed.{AreModules}
use Rattle.w32_handles.specs.CountLaws.{all_holders-keep}
use Rattle.w32_process.specs.ChangeLaws.{processes-with_placed}
use Rattle.w32_process.specs.SoundLaws.{within_slots}
use Rattle.w32_process.specs.Table.{place_at}
use Rattle.w32_machine.specs.Contract.{IsCaller}
use Rattle.w32_machine.specs.declared.caller.Caller.{Caller}
use Rattle.w32_machine.specs.declared.machine.Machine.TheInside.{Inside}
use Rattle.w32_machine.specs.Running.{Running}
use Rattle.w32_machine.specs.View.{posted_in, placed_in, view_of}
use Rattle.w32_machine.specs.Sound.{IsSound}
use Rattle.w32_machine.proofs.Called.{formed-effect}
use Rattle.w32_machine.proofs.Keeping.{sound-over}
use Rattle.w32_machine.proofs.Running.{read-there, program-now, stands, layer}
use Rattle.w32_machine.proofs.Slots.{found, live}

-- The placed modules have different numbers below the number of the script's modules, so they are fewer where one of
-- the script's isn't placed.
abbrev numbers : List PlacedModule → List ℕ
numbers [] = []
numbers (m ∷ ms) = m.module_no ∷ numbers ms

length-numbers : (ms : List PlacedModule) → length (numbers ms) ≡ length ms
length-numbers [] = refl
length-numbers (m ∷ ms) = omega (arith, length-numbers ms)

apart : (ms : List PlacedModule) (k : ℕ) → base_in ms k ≡ None → AllByRecursion (λ y. eqb k y ≡ false) (numbers ms)
apart [] k e = tt
apart (m ∷ ms) k e =
    elim (cases_eq m.module_no k) [
      | inl n ↦ let s = same m.module_no k n in absurd (let f : Some m.base ≡ None = rw s at e in cc)
      | inr d ↦ let s = differs m.module_no k d in (differs k m.module_no (λ f. d (sym f)), apart ms k (rw s at e))
    ]

distinct : (modules : List Module) (ms : List PlacedModule) → AreModules modules ms → IsDistinct eqb (numbers ms)
unfolding IsDistinct
distinct modules [] h = tt
distinct modules (m ∷ ms) h = (apart ms m.module_no h.1, distinct modules ms h.2)

distinct-more : (ms : List PlacedModule) (k : ℕ) → base_in ms k ≡ None → IsDistinct eqb (numbers ms)
    → IsDistinct eqb (k ∷ numbers ms)
unfolding IsDistinct
distinct-more ms k e h = (apart ms k e, h)

below : (modules : List Module) (ms : List PlacedModule) → AreModules modules ms → (q : ℕ)
    → list_any (eqb q) (numbers ms) ≡ true → q < length modules
below modules [] h q e = absurd (cc)
below modules (m ∷ ms) h q e =
    by_test (eqb q m.module_no) refl e (below modules ms h.2 q)
  where
    by_test : (b : Bool) → eqb q m.module_no ≡ b → (b || list_any (eqb q) (numbers ms)) ≡ true
        → (list_any (eqb q) (numbers ms) ≡ true → q < length modules) → q < length modules
    by_test true f g rest =
        let n = eqb-true q m.module_no f in
        omega (arith, n, read-there modules m.module_no h.0.wanted h.0.wanted h.0.listed)
    by_test false f g rest = rest g

fewer : (modules : List Module) (ms : List PlacedModule) (k : ℕ) → AreModules modules ms → base_in ms k ≡ None
    → k < length modules → length ms < length modules
fewer modules ms k h e l =
    omega (
      arith,
      length-le_from_distinct_below (k ∷ numbers ms) (length modules)
          (distinct-more ms k e (distinct modules ms h)) (λ q f. by_test q (eqb q k) refl f),
      length-numbers ms,
    )
  where
    by_test : (q : ℕ) (b : Bool) → eqb q k ≡ b → (b || list_any (eqb q) (numbers ms)) ≡ true → q < length modules
    by_test q true f g = let n = eqb-true q k f in omega (arith, n, l)
    by_test q false f g = below modules ms h q g

pub the-program : (o : Option ℕ) (b : Bool) → is_some o ≡ not b → b ≡ false → (k : ℕ) × (o ≡ Some k)
the-program (Some k) b e f = (k, refl)
the-program None b e f = absurd (let g : false ≡ true = e ∙ ap not f in cc)

pub no-program : (o : Option ℕ) (b : Bool) → is_some o ≡ not b → b ≡ true → o ≡ None
no-program None b e f = refl
no-program (Some k) b e f = absurd (let g : true ≡ false = e ∙ ap not f in cc)

none-past : {X : Type 0} (xs : List X) (k : ℕ) → length xs ≤ k → slice_get xs k ≡ None
none-past [] k l = refl
none-past (x ∷ xs) zero l = absurd (omega arith)
none-past (x ∷ xs) (suc k) l = none-past xs k (omega arith)

there-is : {X : Type 0} (xs : List X) (k : ℕ) (x : X) → k < length xs → x ≡ get_or xs k x → slice_get xs k ≡ Some x
there-is [] k x l e = absurd (omega arith)
there-is (y ∷ xs) zero x l e = ap (λ z. Some z) (sym e)
there-is (y ∷ xs) (suc k) x l e = there-is xs k x (omega arith) e

module _ (m : Inside) (sound : IsSound m) (now : Running) (shows : view_of m ≡ now) (by : Caller)
    (caller : IsCaller now.win32 by) (i : ℕ) (o : Option ℕ) (e : o ≡ (place_at m.processes.slots by.slot).program) where
  pub within-placed : by.slot < length m.placed.items
  within-placed =
      omega (
        arith,
        within_slots m.processes.slots by.slot by.process (stands m sound now shows by caller),
        sound.placed,
      )

  pub there : (slot : ℕ) → slot ≡ by.slot → (ps : List PlacedModule) → ps ≡ get_or m.placed.items slot ps
      → ps ≡ placed_in m.placed.items by.slot
  there slot at ps lent =
      subst (λ j. ps ≡ slice_index_or m.placed.items j []) at
      (get_or_read m.placed.items slot ps (omega (arith, at, within-placed)) lent [])

  pub read-twice : (slot : ℕ) → slot ≡ by.slot → (ps qs : List PlacedModule) → ps ≡ get_or m.placed.items slot ps
      → qs ≡ get_or m.placed.items slot qs → ps ≡ qs
  read-twice slot at ps qs lent again = there slot at ps lent ∙ sym (there slot at qs again)

  -- no program, and no such module
  pub host-step : o ≡ None → ModuleStep now.script now.win32 by.process i reply.BadIndex now.win32
  host-step none =
      rw (sym (program-now m sound now shows by caller) ∙ sym e ∙ none) (refl, refl)

  module _ (k : ℕ) (is : o ≡ Some k) where
    program-is : program_no_by now.win32 by.process ≡ Some k
    program-is = sym (program-now m sound now shows by caller) ∙ sym e ∙ is

    pub absent-step : (n : ℕ) → n ≡ length m.script.setup.modules → n ≤ i
        → ModuleStep now.script now.win32 by.process i reply.BadIndex now.win32
    absent-step n f l =
        let none : slice_get now.script.setup.modules i ≡ None =
        ap (λ (r : Running). slice_get r.script.setup.modules i) (sym shows)
        ∙ none-past m.script.setup.modules i (omega (arith, f, l)) in
        rw (program-is, none) (refl, refl)

    pub creation-there : 1 ≤ by.process
    creation-there = omega (arith, (layer m sound now shows by caller k o e is).number)

    placed-now : placed_in m.placed.items by.slot ≡ placed_by now.win32 by.process
    placed-now =
        sym (ap placed_of (found m sound by.slot by.process (stands m sound now shows by caller)))
        ∙ ap (λ (r : Running). placed_by r.win32 by.process) shows

    -- the modules that were read
    module _ (n slot : ℕ) (f : n ≡ length m.script.setup.modules) (few : n ≤ 8) (l : i < n) (at : slot ≡ by.slot)
        (modules : List Module) (all : modules ≡ m.script.setup.modules) (wanted : Module)
        (read : wanted ≡ get_or modules i wanted) (number : ℕ) (is_number : number ≡ i) (ps : List PlacedModule)
        (lent : ps ≡ get_or m.placed.items slot ps) where
      here : ps ≡ placed_in m.placed.items by.slot
      here = there slot at ps lent

      listed : slice_get m.script.setup.modules i ≡ Some wanted
      listed =
          there-is m.script.setup.modules i wanted (omega (arith, f, l))
          (subst (λ ms. wanted ≡ get_or ms i wanted) all read)

      listed-now : slice_get now.script.setup.modules i ≡ Some wanted
      listed-now = ap (λ (r : Running). slice_get r.script.setup.modules i) (sym shows) ∙ listed

      pub placed-step : (base : ℕ) → base_in ps number ≡ Some base
          → ModuleStep now.script now.win32 by.process i (reply.Base base) now.win32
      placed-step base b =
          let known : base_in (placed_by now.win32 by.process) i ≡ Some base =
          ap (λ j. base_in (placed_by now.win32 by.process) j) (sym is_number)
          ∙ ap (λ xs. base_in xs number) (sym (here ∙ placed-now)) ∙ b in
          rw (program-is, listed-now, known) (refl, refl)

      pub room : base_in ps number ≡ None → length ps < 8
      room b =
          let free : base_in (placed_in m.placed.items by.slot) i ≡ None =
          ap (base_in (placed_in m.placed.items by.slot)) (sym is_number)
          ∙ ap (λ xs. base_in xs number) (sym here) ∙ b in
          let least = fewer m.script.setup.modules (placed_in m.placed.items by.slot) i
          (layer m sound now shows by caller k o e is).placed free (omega (arith, f, l)) in
          omega (arith, least, f, few, ap (λ xs. length xs) here)

      -- one more
      module _ (b : base_in ps number ≡ None) (creation base : ℕ) (c : creation ≡ by.process - 1)
          (place : IsPlaceFor (taken_pages m.script creation ps) wanted.base wanted.size base)
          (more : List PlacedModule) (made : more ≡ and_placed ps number base) where
        abbrev pub placing : Inside
        placing = record m { placed = with_item m.placed slot more }

        this : placed_in (slice_set m.placed.items slot more) by.slot ≡
            and_placed (placed_in m.placed.items by.slot) i base
        this =
            subst (λ j. slice_index_or (slice_set m.placed.items slot more) j [] ≡ more) at
            (get_or-set_same m.placed.items slot more [] (omega (arith, at, within-placed)))
            ∙ made ∙ ap (λ j. and_placed ps j base) is_number ∙ ap (λ xs. and_placed xs i base) here

        others : (j : ℕ) → j ≢ by.slot
            → placed_in (slice_set m.placed.items slot more) j ≡ placed_in m.placed.items j
        others j d = get_or-set_other m.placed.items slot j more [] (λ g. d (omega (arith, g, at)))

        abbrev change : Process → Process
        change = λ p. record p { placed = and_placed p.placed i base }

        processes-are : (view_of placing).win32.processes ≡ change_process by.process change (view_of m).win32.processes
        processes-are =
            processes-with_placed m.processes sound.table by.slot by.process (stands m sound now shows by caller)
            (posted_in m.posted.items) (placed_in m.placed.items) (placed_in (slice_set m.placed.items slot more))
            (λ xs. and_placed xs i base) this others

        after : (view_of placing).win32 ≡ with_process now.win32 by.process change
        after =
            ap (λ (xs : List Process). record (view_of m).win32 { processes = xs }) processes-are
            ∙ ap (λ (r : Running). with_process r.win32 by.process change) shows

        free : base_in (placed_by now.win32 by.process) i ≡ None
        free =
            ap (base_in (placed_by now.win32 by.process)) (sym is_number)
            ∙ ap (λ xs. base_in xs number) (sym (here ∙ placed-now)) ∙ b

        placed-there : Places m.script now.win32 by.process i wanted (reply.Base base) (view_of placing).win32
        placed-there = record {
          base = base;
          place = subst (λ xs. IsPlaceFor (taken_pages m.script (creation_of by.process) xs) wanted.base wanted.size
              base)
              (here ∙ placed-now)
              (subst (λ j. IsPlaceFor (taken_pages m.script j ps) wanted.base wanted.size base) c place);
          answered = refl;
          after = after;
        }

        step : ModuleStep m.script now.win32 by.process i (reply.Base base) (view_of placing).win32
        step = rw (program-is, listed, free) placed-there

        pub place-done : ModuleStep now.script now.win32 by.process i (reply.Base base) (view_of placing).win32
        place-done =
            subst (λ (x : Script). ModuleStep x now.win32 by.process i (reply.Base base) (view_of placing).win32)
            (ap (λ (r : Running). r.script) shows) step

        pub place-sound : IsSound placing
        place-sound =
            sound-over m placing sound
            (record {
              script = refl;
              table = sound.table;
              slots = refl;
              objects = refl;
              section = refl;
              posted = refl;
              placed = length-set {A = List PlacedModule} m.placed.items slot more;
              keys = refl;
              numbers = λ j. refl;
              holders = λ q. ap (λ xs. all_holders_of xs q) processes-are
                  ∙ all_holders-keep by.process change (λ p. refl) (λ p. refl) (view_of m).win32.processes q;
            })
            (formed-effect m sound now shows by caller by.thread caller.thread (call.Module i) (view_of placing).win32
            (module_effect m.script now.win32 by.process by.thread i (reply.Base base) (view_of placing).win32
            (subst (λ (r : Running). is_live (process_of r.win32.processes by.process) ≡ true) shows
            (live m sound by.slot by.process (stands m sound now shows by caller))) step))
