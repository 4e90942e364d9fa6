-- What follows from a part's turns for the part.
use Rattle.std.specs.Prelude.{◌≡◌, ℕ, ◌+◌, ◌<◌, ◌≤◌, ℤ, Bool, true, false, ◌&&◌, ◌||◌, nat_eq, List, ◌++◌}
use Rattle.std.specs.Prelude.{length, take, drop, Some, None}
use Rattle.std.specs.Int.{w32, to_le_bytes, cast_unsigned}
use Rattle.std.proofs.Common.{refl, sym, ap, ◌∙◌, subst, arith, length-append, length-drop}
use Rattle.std.proofs.lemmas.List.{length-take-le}
use Rattle.std.proofs.lemmas.Bool.{eqb-true, cond_both}
use Rattle.w32_base.specs.declared.call.Call.{Call}
use Rattle.w32_base.specs.declared.call.Reply.{Reply}
use Rattle.w32_base.specs.declared.event.Event.{Event}
use Rattle.w32_base.specs.declared.own.Own.{Own}
use Rattle.w32_base.specs.declared.part.After.{After}
use Rattle.w32_base.specs.Part.{may_keep_rank, is_progress, is_wait, is_lost_exchange, KeepsLengths}
use Rattle.vm_spec.specs.Image.{image_of, with_image, with_word, moved_on, place_of, with_result}
use Rattle.roster.specs.Turns.{Turn}
use Rattle.layer_turns.specs.OwnTurns.{OwnTurn, goes_to, on_own, WentOn, can_take, answers, IsFair}

pub same_lengths : (own : Own) → KeepsLengths own own
same_lengths own = record { dat = refl; heap = refl; stack = refl; cyg = refl; scratch = refl }

-- a part that goes by a fair turn lowers its rank, and the own bytes keep their lengths
pub fair_lowers : {P : Type 0} (rank : P → ℕ) (posted : Call) (before : ℕ) (q : P) (o n : Own) (r : Reply) (a : After)
    (turn : OwnTurn P) → IsFair rank posted before r o turn → WentOn turn q n a
    → may_keep_rank posted r a.event ≡ false → rank q < before
fair_lowers rank posted before q o n r a turn fair went keeps =
    subst (λ x. rank x < before) (sym went.part)
    (fair.lowers (ap (λ e. may_keep_rank posted r e) (sym went.event) ∙ keeps))

pub fair_keeps : {P : Type 0} (rank : P → ℕ) (posted : Call) (before : ℕ) (q : P) (o n : Own) (r : Reply) (a : After)
    (turn : OwnTurn P) → IsFair rank posted before r o turn → WentOn turn q n a → KeepsLengths o n
fair_keeps rank posted before q o n r a turn fair went =
    subst (λ x. KeepsLengths o x) (sym went.own) fair.lengths

-- a turn that lowers the rank in any case
pub fair_below : {P : Type 0} (rank : P → ℕ) (posted : Call) (before : ℕ) (r : Reply) (own : Own) (turn : Turn P)
    → rank turn.part < before → IsFair rank posted before r own (on_own own turn)
fair_below rank posted before r own turn lower = record { lowers = λ _. lower; lengths = same_lengths own }

-- one that leaves the bytes as they are
pub fair_on : {P : Type 0} (rank : P → ℕ) (posted : Call) (before : ℕ) (r : Reply) (own : Own) (turn : Turn P)
    → (may_keep_rank posted r turn.event ≡ false → rank turn.part < before)
    → IsFair rank posted before r own (on_own own turn)
fair_on rank posted before r own turn lowers = record { lowers = lowers; lengths = same_lengths own }

-- one after which the rank may be what it likes
pub fair_kept : {P : Type 0} (rank : P → ℕ) (posted : Call) (before : ℕ) (r : Reply) (own : Own) (turn : Turn P)
    → may_keep_rank posted r turn.event ≡ true → IsFair rank posted before r own (on_own own turn)
fair_kept rank posted before r own turn may =
    record { lowers = λ keeps. absurd (let never : true ≡ false = sym may ∙ keeps in cc); lengths = same_lengths own }

-- the length of bytes with a number in four of them
length-with_word : (bytes : List ℕ) (place n : ℕ) → place + 4 ≤ length bytes
    → length (with_word bytes place n) ≡ length bytes
unfolding with_word
length-with_word bytes place n within =
    omega (
      arith,
      length-append (take place bytes ++ to_le_bytes w32 n) (drop (place + 4) bytes),
      length-append (take place bytes) (to_le_bytes w32 n),
      length-take-le place bytes (omega arith),
      length-drop (place + 4) bytes,
    )

and_left : (a b : Bool) → (a && b) ≡ true → a ≡ true
and_left true b e = refl
and_left false b e = cc

pub answered_lengths : (own : Own) (z : ℤ) → can_take own ≡ true
    → KeepsLengths own (with_image own (with_result (image_of own) z None))
answered_lengths own z can =
    let size : length own.dat ≡ 64 = eqb-true (length own.dat) 64 (and_left (nat_eq (length own.dat) 64) _ can) in
    let moved : length (moved_on (image_of own)).dat ≡ length own.dat =
    length-with_word own.dat 32 (place_of (image_of own) + 1) (omega arith) in
    record {
      dat = length-with_word (moved_on (image_of own)).dat 0 (cast_unsigned w32 z) (omega arith) ∙ moved;
      heap = refl;
      stack = refl;
      cyg = refl;
      scratch = refl;
    }

-- a call's result is fair: its event isn't a look at a child, and the rest has a lower rank
pub answers_fair : {P : Type 0} (rank : P → ℕ) (posted : Call) (before : ℕ) (r : Reply) (rest next : P) (own : Own)
    (z : ℤ) (e : Event) → is_progress (Some e) ≡ true → rank rest < before
    → IsFair rank posted before r own (answers rest next own z e)
answers_fair rank posted before r rest next own z e progress lower =
    cond_both (can_take own)
    (record { part = next; own = with_image own (with_result (image_of own) z None); event = Some e })
    (goes_to rest own) (IsFair rank posted before r own)
    (λ can. record {
      lowers = λ keeps. absurd (let never : true ≡ false =
          ap (λ b. (b || is_wait posted) || is_lost_exchange posted r) (sym progress) ∙ keeps in cc);
      lengths = answered_lengths own z can;
    })
    (λ _. record { lowers = λ _. lower; lengths = same_lengths own })
