-- At the opening the one layer process is the first one, and it runs the program that its image names.
use Rattle.std.proofs.Common.{◌≡◌, ℕ, ◌≤◌, Bool, true, false, nat_eq, if◌then◌else◌, List, Some, None, refl, sym, ap}
use Rattle.std.proofs.Common.{subst, arith, replicate}
use Rattle.std.proofs.lemmas.Bool.{eqb-true}
use Rattle.w32_base.specs.declared.setup.Program.{Program}
use Rattle.script_spec.specs.declared.script.Script.{Script}
use Rattle.vm_spec.specs.Image.{image_of, program_of, word_at, with_word}
use Rattle.win32_spec.specs.Lookup.{number_of, number_in}
use Rattle.win32_spec.specs.Making.{new_memory}
use Rattle.win32_spec.specs.Opening.{OpeningNumbers, opening_memory, opening_host, opening_process, opening}
use Rattle.win32_spec.specs.Opening.{IsOpening}
use Rattle.win32_spec.specs.State.{PlacedModule, Win32State}
use Rattle.layer_actor.specs.Actor.{first_identity}
use Rattle.layer_actor.specs.LookClause.{IsMainOf}

-- the new image of the first program names it
first_program : word_at (with_word (replicate 64 0) 40 0) 40 ≡ 0
unfolding word_at with_word
first_program = refl

opening_program : (program : Program) (placed : List PlacedModule)
    → program_of (image_of (opening_memory program placed)) ≡ 0
unfolding new_memory
opening_program program placed = first_program

-- the process in a slot for layer processes, and what its main thread knows of itself
record IsFirst (s : Win32State) (w : ℕ) : Type 0 where
  pub number : w ≡ 2
  pub main : IsMainOf first_identity s w

module _ (numbers : OpeningNumbers) (program : Program) (placed : List PlacedModule) where
  abbrev opened : Win32State
  opened = opening numbers program placed

  first_main : IsMainOf first_identity opened 2
  first_main = record { image = refl; runs = ap (λ n. Some n) (sym (opening_program program placed)) }

  by_tests : (slot w : ℕ) → 1 ≤ slot → (a b : Bool) → nat_eq 0 slot ≡ a
      → number_of (if a then Some (opening_host numbers)
      else if b then Some (opening_process numbers program placed) else None) ≡ Some w → IsFirst opened w
  by_tests slot w from true b host here = absurd (omega (arith, from, eqb-true 0 slot host))
  by_tests slot w from false true host here =
      let two : 2 ≡ w = cc in
      record { number = sym two; main = subst (IsMainOf first_identity opened) two first_main }
  by_tests slot w from false false host here = absurd (let never : None ≡ Some w = here in cc)

pub opens-main : (script : Script) (s : Win32State) → IsOpening script s → (slot w : ℕ) → 1 ≤ slot
    → number_in s slot ≡ Some w → (w ≡ 2) × IsMainOf first_identity s w
opens-main script s opens slot w from here =
    let is = by_tests opens.numbers opens.program opens.placed slot w from (nat_eq 0 slot) (nat_eq 1 slot) refl
    (subst (λ (n : Win32State). number_in n slot ≡ Some w) opens.state here) in
    (is.number, subst (λ (n : Win32State). IsMainOf first_identity n w) (sym opens.state) is.main)
