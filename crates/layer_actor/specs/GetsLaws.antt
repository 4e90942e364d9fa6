-- A get comes to its end.
use Rattle.std.specs.Prelude.{◌≡◌, ℕ, ◌+◌, ◌<◌, pos, true, false, if◌then◌else◌, Option, Some, None}
use Rattle.std.proofs.Common.{refl, arith}
use Rattle.std.proofs.lemmas.Bool.{cond_both}
use Rattle.w32_base.specs.declared.call.Reply.{Reply}
use Rattle.w32_base.specs.declared.call.Reply.TheVariants as reply
use Rattle.w32_base.specs.declared.own.Own.{Own}
use Rattle.layer_spec.specs.Decoding.{group_of}
use Rattle.layer_spec.specs.Rows.{GroupWord}
use Rattle.layer_spec.specs.Words.{row_of}
use Rattle.roster.specs.Turns.{all_by_word}
use Rattle.roster.specs.Orphaned.{is_process_number}
use Rattle.roster.specs.Words.{is_live_word}
use Rattle.layer_turns.specs.OwnTurns.{OwnTurn, goes_to, IsFair}
use Rattle.layer_turns.specs.OwnTurnsLaws.{same_lengths, answers_fair}
use Rattle.layer_actor.specs.declared.gets.Asked.{Asked}
use Rattle.layer_actor.specs.declared.gets.Asked.TheVariants as asked
use Rattle.layer_actor.specs.declared.gets.GetStep.{GetStep}
use Rattle.layer_actor.specs.declared.gets.GetStep.TheVariants as get
use Rattle.layer_actor.specs.declared.gets.Gets.{Gets}
use Rattle.layer_actor.specs.Gets.{get_step_posted, get_posted, get_event, get_answers, get_grouped}
use Rattle.layer_actor.specs.Gets.{get_looked, get_step_after, get_after, get_rank_by, get_rank}

-- what is asked of a turn of a step, where so many turns follow the call
abbrev FairGet : (behind row : ℕ) → GetStep → Reply → Own → OwnTurn GetStep → Type 0
FairGet behind row s r own t =
    IsFair (get_rank_by behind) (get_step_posted row s) (get_rank_by behind s) r own t

answers_is_fair : (behind row : ℕ) (a : Asked) (s : GetStep) (r : Reply) (own : Own) (value : ℕ)
    → 1 < get_rank_by behind s
    → FairGet behind row s r own (get_answers row a own value)
answers_is_fair behind row a s r own value high =
    answers_fair (get_rank_by behind) (get_step_posted row s) (get_rank_by behind s) r get.Rest get.Done own (pos value)
    (get_event row a value) refl high

falls : (behind row : ℕ) (s next : GetStep) (r : Reply) (own : Own) → get_rank_by behind next < get_rank_by behind s
    → FairGet behind row s r own (goes_to next own)
falls behind row s next r own lower = record { lowers = λ _. lower; lengths = same_lengths own }

grouped_fair : (behind row : ℕ) (a : Asked) (r : Reply) (own : Own) (o : Option GroupWord)
    → FairGet behind row get.Grouping r own (get_grouped row a own o)
grouped_fair behind row a r own None = falls behind row get.Grouping get.Rest r own (omega arith)
grouped_fair behind row asked.Parent r own (Some g) =
    cond_both (is_process_number g.parent) (goes_to (get.Parent (row_of g.parent)) own)
    (get_answers row asked.Parent own 1) (FairGet behind row get.Grouping r own)
    (λ _. falls behind row get.Grouping (get.Parent (row_of g.parent)) r own (omega arith))
    (λ _. answers_is_fair behind row asked.Parent get.Grouping r own 1 (omega arith))
grouped_fair behind row asked.Group r own (Some g) =
    answers_is_fair behind row asked.Group get.Grouping r own g.group (omega arith)
grouped_fair behind row asked.Session r own (Some g) =
    answers_is_fair behind row asked.Session get.Grouping r own g.session (omega arith)

-- each turn of a step is fair, also where so many follow the call
pub get_step_fair : (behind row : ℕ) (a : Asked) (s : GetStep) (r : Reply) (own : Own)
    → FairGet behind row s r own (get_step_after row a s own r)
get_step_fair behind row a get.Grouping r own =
    all_by_word (λ t r. FairGet behind row get.Grouping r own t) (goes_to get.Rest own)
    (λ w. get_grouped row a own (group_of w)) (λ r. falls behind row get.Grouping get.Rest r own (omega arith))
    (λ w. grouped_fair behind row a (reply.Word w) own (group_of w)) r
get_step_fair behind row a (get.Parent parent) r own =
    all_by_word (λ t r. FairGet behind row (get.Parent parent) r own t) (goes_to get.Rest own)
    (get_looked row parent a own) (λ r. falls behind row (get.Parent parent) get.Rest r own (omega arith))
    (λ w. answers_is_fair behind row a (get.Parent parent) (reply.Word w) own (if is_live_word w then parent + 1 else 1)
    (omega arith)) r
get_step_fair behind row a get.Done r own =
    record { lowers = λ keeps. absurd (let never : true ≡ false = keeps in cc); lengths = same_lengths own }
get_step_fair behind row a get.Rest r own =
    record { lowers = λ keeps. absurd (let never : true ≡ false = keeps in cc); lengths = same_lengths own }

-- each turn lowers the rank, and keeps the length of each region
pub get_fair : (p : Gets) (r : Reply) (own : Own)
    → IsFair get_rank (get_posted p) (get_rank p) r own (get_after p own r)
get_fair p r own =
    record {
      lowers = (get_step_fair 0 p.row p.asked p.step r own).lowers;
      lengths = (get_step_fair 0 p.row p.asked p.step r own).lengths;
    }
