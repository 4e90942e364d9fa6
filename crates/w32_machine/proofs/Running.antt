-- A block of local instructions on the memory of the caller.
use Rattle.std.proofs.Common.{◌≡◌, ◌∙◌, ℕ, ◌<◌, zero, suc, List, [], ◌∷◌, length, Option, Some, None, MatchOption}
use Rattle.std.proofs.Common.{IsSome}
use Rattle.std.proofs.Common.{slice_get, get_or, refl, sym, ap, subst, arith}
use Rattle.w32_base.specs.Part.{KeepsLengths}
use Rattle.w32_base.specs.declared.own.Own.{Own}
use Rattle.w32_base.specs.declared.call.Reply.TheVariants as reply
use Rattle.w32_base.specs.declared.setup.Program.{Program}
use Rattle.vm_spec.specs.Block.{block_length, block_image}
use Rattle.vm_spec.specs.Image.{image_of, with_image}
use Rattle.win32_spec.specs.Lookup.{memory_by, with_own}
use Rattle.win32_spec.specs.MemoryCalls.{program_no_by, instructions_of, BlockStep, RunStep}
use Rattle.win32_spec.specs.Named.{Gives}
use Rattle.win32_spec.specs.PlaceEffects.{layer_of}
use Rattle.win32_spec.specs.WellFormed.{IsLayerProcess}
use Rattle.w32_process.specs.Table.{place_at, number_at}
use Rattle.w32_machine.specs.Contract.{IsCaller}
use Rattle.w32_machine.specs.declared.caller.Caller.{Caller}
use Rattle.w32_machine.specs.declared.machine.Machine.TheInside.{Inside}
use Rattle.w32_machine.specs.Running.{Running}
use Rattle.w32_machine.specs.View.{view_of}
use Rattle.w32_machine.specs.Sound.{IsSound}
use Rattle.w32_machine.proofs.Owned.{owned, owned-is, owned-sound}
use Rattle.w32_machine.proofs.Slots.{caller-at, is_there, its_process, found, memory_at, program_at}

-- an element that is there
pub read-there : {X : Type 0} (xs : List X) (k : ℕ) (x d : X) → slice_get xs k ≡ Some x → k < length xs
read-there [] k x d e = absurd (cc)
read-there (y ∷ xs) zero x d e = omega arith
read-there (y ∷ xs) (suc k) x d e = omega (arith, read-there xs k x d e)

pub read-is : {X : Type 0} (xs : List X) (k : ℕ) (x d : X) → slice_get xs k ≡ Some x → d ≡ get_or xs k d → d ≡ x
read-is [] k x d e f = absurd (cc)
read-is (y ∷ xs) zero x d e f = f ∙ (let g : y ≡ x = cc in g)
read-is (y ∷ xs) (suc k) x d e f = read-is xs k x d e f

module _ (m : Inside) (sound : IsSound m) (now : Running) (shows : view_of m ≡ now) (by : Caller)
    (caller : IsCaller now.win32 by) where
  pub stands : number_at m.processes.slots by.slot ≡ Some by.process
  stands = caller-at m sound now shows by.slot by.process caller.process

  pub some-there : IsSome (number_at m.processes.slots by.slot)
  some-there = is_there (number_at m.processes.slots by.slot) by.process stands

  pub program-now : (place_at m.processes.slots by.slot).program ≡ program_no_by now.win32 by.process
  program-now =
      sym (program_at m sound by.slot by.process stands)
      ∙ ap (λ (r : Running). program_no_by r.win32 by.process) shows

  pub memory-now : (place_at m.processes.slots by.slot).own ≡ memory_by now.win32 by.process
  memory-now =
      sym (memory_at m sound by.slot by.process stands)
      ∙ ap (λ (r : Running). memory_by r.win32 by.process) shows

  -- the host has no program
  pub idle-step : (o : Option ℕ) → o ≡ (place_at m.processes.slots by.slot).program → o ≡ None
      → RunStep now.script now.win32 by.process (reply.Ran 0) now.win32
  idle-step o e none =
      subst (λ k. MatchOption k (Gives (reply.Ran 0) now.win32 (reply.Ran 0) now.win32)
      (λ program_no. BlockStep (instructions_of (slice_get now.script.setup.programs program_no)) now.win32 by.process
      (reply.Ran 0) now.win32)) (sym (sym program-now ∙ sym e ∙ none)) (refl, refl)

  -- a layer process has one
  module _ (k : ℕ) (o : Option ℕ) (e : o ≡ (place_at m.processes.slots by.slot).program) (is : o ≡ Some k) where
    pub layer : IsLayerProcess m.script (its_process m sound by.slot by.process stands) k
    layer =
        layer_of m.script (view_of m).win32 by.process k (its_process m sound by.slot by.process stands)
        sound.state.formed (found m sound by.slot by.process stands) refl (sym e ∙ is)

    pub within-programs : (programs : List Program) → programs ≡ m.script.setup.programs → (i : ℕ) → i ≡ k
        → i < length programs
    within-programs programs f i n =
        let there = read-there m.script.setup.programs k layer.program layer.program layer.listed in
        omega (arith, there, ap (λ ps. length ps) f)

    pub data-size : (own : Own) → own ≡ (place_at m.processes.slots by.slot).own → length own.dat ≡ 64
    data-size own f = ap (λ (x : Own). length x.dat) f ∙ layer.sizes.dat_size

    -- the block of the program that was read
    module _ (programs : List Program) (listed : programs ≡ m.script.setup.programs) (i : ℕ) (at : i ≡ k)
        (program : Program) (read : program ≡ get_or programs i program) (old own : Own)
        (lent : old ≡ (place_at m.processes.slots by.slot).own) (n : ℕ)
        (count : n ≡ block_length program.code (image_of old))
        (image : own ≡ with_image old (block_image program.code (image_of old))) (keeps : KeepsLengths old own) where
      pub run-sound : IsSound (owned m sound by.slot by.process stands own)
      run-sound =
          owned-sound m sound by.slot by.process stands own (subst (λ x. KeepsLengths x own) lent keeps)

      is_program : slice_get now.script.setup.programs k ≡ Some program
      is_program =
          let same : program ≡ layer.program =
          read-is m.script.setup.programs k layer.program program layer.listed
          (subst (λ ps. program ≡ get_or ps k program) listed (subst (λ j. program ≡ get_or programs j program) at
          read)) in
          ap (λ (r : Running). slice_get r.script.setup.programs k) (sym shows) ∙ layer.listed ∙ ap (λ p. Some p) (sym
          same)

      after : (view_of (owned m sound by.slot by.process stands own)).win32 ≡ with_own now.win32 by.process own
      after =
          owned-is m sound by.slot by.process stands own
          ∙ ap (λ (r : Running). with_own r.win32 by.process own) shows

      pub run-step : RunStep now.script now.win32 by.process (reply.Ran n)
          (view_of (owned m sound by.slot by.process stands own)).win32
      run-step =
          let memory : old ≡ memory_by now.win32 by.process = lent ∙ memory-now in
          subst (λ o. MatchOption o
          (Gives (reply.Ran 0) now.win32 (reply.Ran n) (view_of (owned m sound by.slot by.process stands own)).win32)
          (λ program_no. BlockStep (instructions_of (slice_get now.script.setup.programs program_no)) now.win32
          by.process (reply.Ran n) (view_of (owned m sound by.slot by.process stands own)).win32))
          (sym (sym program-now ∙ sym e ∙ is))
          (subst (λ o. BlockStep (instructions_of o) now.win32 by.process (reply.Ran n)
          (view_of (owned m sound by.slot by.process stands own)).win32) (sym is_program) (
            ap (λ j. reply.Ran j) (count ∙ ap (λ x. block_length program.code (image_of x)) memory),
            after ∙ ap (with_own now.win32 by.process)
                (image ∙ ap (λ x. with_image x (block_image program.code (image_of x))) memory),
          ))
