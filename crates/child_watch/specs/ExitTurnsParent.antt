-- The turns that look at the own group word and at the parent's main word give what they owe.
use Rattle.std.proofs.Common.{◌≡◌, ℕ, ◌<◌, ◌≤◌, Bool, true, false, ◌&&◌, nat_le, if◌then◌else◌, List, Option}
use Rattle.std.proofs.Common.{Some, None, refl, sym, ap, ◌∙◌, subst, arith}
use Rattle.std.proofs.lemmas.Bool.{leb-false, le-leb}
use Rattle.w32_base.specs.declared.call.Call.{Call}
use Rattle.w32_base.specs.declared.call.Call.TheVariants as call
use Rattle.w32_base.specs.declared.call.Reply.{Reply}
use Rattle.w32_base.specs.declared.event.Event.{Event}
use Rattle.script_spec.specs.declared.script.Script.{Script}
use Rattle.win32_spec.specs.Call.{CallStep}
use Rattle.win32_spec.specs.Driven.{Parts}
use Rattle.win32_spec.specs.Lookup.{memory_by}
use Rattle.win32_spec.specs.State.{Win32State}
use Rattle.layer_spec.specs.Decoding.{group_of}
use Rattle.layer_spec.specs.Moment.{Moment, Seen, seen_with}
use Rattle.layer_spec.specs.Rows.{GroupWord, main_place, group_place}
use Rattle.layer_spec.specs.Words.{word_in, row_of, main_at, group_at}
use Rattle.roster.specs.declared.release.Let.TheVariants as release
use Rattle.roster.specs.Orphaned.{is_process_number}
use Rattle.roster.specs.Roster.{HoldsRoster}
use Rattle.roster.specs.Turns.{Turn, quietly, by_word, all_by_word}
use Rattle.roster.specs.Words.{is_live_word, is_process_word}
use Rattle.world_spec.specs.Calm.{is_plain_call}
use Rattle.world_spec.specs.MutexLaws.{KeepsAll, kept-same}
use Rattle.world_spec.specs.Owes.{OwnTurn}
use Rattle.world_spec.specs.Sound.{IsSoundMoment}
use Rattle.child_watch.specs.declared.collect.Gather.TheVariants as gather
use Rattle.child_watch.specs.declared.exiting.ExitStep.{ExitStep}
use Rattle.child_watch.specs.declared.exiting.ExitStep.TheVariants as exit
use Rattle.child_watch.specs.declared.exiting.Exiting.{Exiting}
use Rattle.child_watch.specs.Exiting.{exit_posted, exit_step_posted, exit_step_after, exit_grouped, exit_parent}
use Rattle.child_watch.specs.ExitClause.{HasParentRow, HoldsDead, ExitStepClause}
use Rattle.child_watch.specs.ExitLoads.{load-word, far-word}
use Rattle.child_watch.specs.ExitTurns.{ExitGoes, ExitResult, exit_entry, exit_moment, exit_to, exit-quiet}
use Rattle.child_watch.specs.ExitTurnsDead.{dead-words, dead-holds}

-- a number from 2 up that no process can have is above those that one can have
above_numbers : (n : ℕ) → is_process_number n ≡ false → 2 ≤ n → 4001 < n
above_numbers n e low =
    leb-false n 4001 (sym (ap (λ b. b && nat_le n 4001) (le-leb 2 n low)) ∙ e)

module _ {A : Type 0} (script : Script) (past : List (Seen A)) (now : Moment A) (slot : ℕ)
    (part : Exiting) (called : Call) (reply : Reply) (given : Option Event) (next : Option Exiting) (new : Win32State)
    (sound : IsSoundMoment script past now)
    (turn : OwnTurn exit_posted ExitGoes script now.win32 slot 0 part called reply given next new)
    (h : HoldsDead past now turn.process.number part.row part.ending) where
  abbrev w : ℕ
  w = turn.process.number

  abbrev row : ℕ
  row = part.row

  abbrev Result : Type 0
  Result = ExitResult script past now slot part called reply given next new sound turn

  abbrev to : Turn ExitStep
  to = exit_to script past now slot part called reply given next new sound turn

  abbrev At : Parts A → ExitStep → Type 0
  At parts s = ExitStepClause script
      (seen_with (exit_entry script past now slot part called reply given next new sound turn None parts now.posix))
      (exit_moment script past now slot part called reply given next new sound turn parts now.posix) w row part.image
      part.ending s

  -- a load, with the word that stood there
  module _ (place : ℕ) (its_call : turn.thread.posted ≡ call.Load 1 place) where
    step : CallStep script now.win32 w 0 (call.Load 1 place) reply turn.mid
    step = subst (λ c. CallStep script now.win32 w 0 c reply turn.mid) its_call turn.posted.step

    kept : KeepsAll now.win32 turn.mid
    kept = kept-same now.win32 turn.mid step.1

    words : (i : ℕ) → word_in new i ≡ word_in now.win32 i
    words = dead-words script past now slot part called reply given next new sound turn h.died kept

    dead : (parts : Parts A) → HoldsDead
        (seen_with (exit_entry script past now slot part called reply given next new sound turn None parts now.posix))
        (exit_moment script past now slot part called reply given next new sound turn parts now.posix) w row part.ending
    dead = dead-holds script past now slot part called reply given next new sound turn h.died kept
        (subst (λ s. HoldsRoster s w 0) (sym step.1) h.holds)

    -- a turn that goes to a step by the word
    loads : (f : ℕ → ExitStep) → to ≡ by_word (quietly exit.Rest) (λ x. quietly (f x)) reply
        → ((parts : Parts A) (x : ℕ) → x ≡ word_in now.win32 place → At parts (f x)) → Result
    loads f is stands =
        exit-quiet script past now slot part called reply given next new sound turn kept
        (ap is_plain_call (turn.called_is ∙ its_call))
        (ap (λ (t : Turn ExitStep). t.event) is
        ∙ all_by_word (λ t r. t.event ≡ None) (quietly exit.Rest) (λ x. quietly (f x)) (λ r. refl) (λ x. refl) reply)
        (λ parts. subst (λ (t : Turn ExitStep). At parts t.part) (sym is)
        (all_by_word (λ (t : Turn ExitStep) r. reply ≡ r → At parts t.part) (quietly exit.Rest) (λ x. quietly (f x))
        (λ r e. tt)
        (λ x e. stands parts x (load-word script now.win32 sound.formed w 1 place reply turn.mid step x e)) reply refl))

  -- The own group word names the raw parent.
  pub exit-groups : part.step ≡ exit.Grouping → Result
  exit-groups is =
      loads (group_place row) its_call (λ x. exit_grouped row (group_of x))
      (ap (λ s. exit_step_after row part.ending s (memory_by turn.mid w) reply) is)
      (λ parts x e. by_group parts x e (group_of x) refl)
    where
      its_call : turn.thread.posted ≡ call.Load 1 (group_place row)
      its_call = turn.own_call ∙ ap (exit_step_posted row part.image part.ending) is

      -- the group word is the same after it
      same_group : (x : ℕ) → x ≡ word_in now.win32 (group_place row) → (g k : GroupWord) → group_of x ≡ Some g
          → group_of (group_at new row) ≡ Some k → g ≡ k
      same_group x e g k f later =
          let is : Some g ≡ Some k =
          sym f ∙ (ap group_of (e ∙ sym (words (group_place row) its_call (group_place row))) ∙ later) in cc

      by_group : (parts : Parts A) (x : ℕ) → x ≡ word_in now.win32 (group_place row) → (o : Option GroupWord)
          → group_of x ≡ o → At parts (exit_grouped row o)
      by_group parts x e None f = tt
      by_group parts x e (Some g) f = by_number (is_process_number g.parent) refl
        where
          by_number : (b : Bool) → is_process_number g.parent ≡ b
              → At parts (if b then exit.Parent (row_of g.parent) else exit.Itself (gather.Looking row))
          by_number true n = (
            dead (group_place row) its_call parts,
            λ process k later. ap (λ (y : GroupWord). row_of y.parent) (sym (same_group x e g k f later)),
          )
          by_number false n = (
            dead (group_place row) its_call parts,
            record {
              from = h.died.from;
              parent = λ process k later low.
                  let is = same_group x e g k f later in
                  let far = above_numbers k.parent
                  (subst (λ (y : GroupWord). is_process_number y.parent ≡ false) is n) low in
                  ap is_live_word (words (group_place row) its_call (main_place (row_of k.parent))
                  ∙ far-word script now.win32 sound.formed sound.hosted (main_place (row_of k.parent))
                  (omega (arith, far)));
            },
          )

  -- A live parent reaps; else the process is an orphan.
  pub exit-parents : (parent : ℕ) → part.step ≡ exit.Parent parent → HasParentRow now.win32 row parent → Result
  exit-parents parent is its =
      loads (main_place parent) its_call (exit_parent row)
      (ap (λ s. exit_step_after row part.ending s (memory_by turn.mid w) reply) is)
      (λ parts x e. by_live parts x e (is_live_word x) refl)
    where
      its_call : turn.thread.posted ≡ call.Load 1 (main_place parent)
      its_call = turn.own_call ∙ ap (exit_step_posted row part.image part.ending) is

      by_live : (parts : Parts A) (x : ℕ) → x ≡ word_in now.win32 (main_place parent) → (b : Bool) → is_live_word x ≡ b
          → At parts (if b then exit.Letting release.Releasing else exit.Itself (gather.Looking row))
      by_live parts x e true l = let both = dead (main_place parent) its_call parts in both.died
      by_live parts x e false l = (
        dead (main_place parent) its_call parts,
        record {
          from = h.died.from;
          parent = λ process g group low.
              let same = words (main_place parent) its_call in
              let at = its (ap is_process_word (sym (same (main_place row))) ∙ process) g
              (ap group_of (sym (same (group_place row))) ∙ group) in
              ap (λ k. is_live_word (main_at new k)) at
              ∙ (ap is_live_word (same (main_place parent) ∙ sym e) ∙ l);
        },
      )
