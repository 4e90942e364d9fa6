-- What holds for everybody at a moment holds after each step that keeps the facts.
use Rattle.std.proofs.Common.{◌+◌, ◌-◌, MatchOption, subst}
use Rattle.win32_spec.specs.LookupLaws.{same, or_left, or_right}
use Rattle.posix_spec.specs.Pending.{is_live}
use Rattle.posix_spec.specs.Ranges.{HasRanges}
use Rattle.posix_spec.specs.State as posix
use Rattle.posix_spec.specs.State.{Life, Record, PosixState, record_of}
use Rattle.layer_spec.specs.Decodes.{ShowsRecord, ShowsRow, life_by}
use Rattle.layer_spec.specs.Discipline.{is_end}
use Rattle.layer_spec.specs.Turns.{is_live_process, is_end_of, was_ended}
use Rattle.std.proofs.Common.{◌≡◌, ◌≢◌, ◌⊎◌, inl, inr, ℕ, ◌<◌, ◌≤◌, Bool, true, false, Option, Some}
use Rattle.std.proofs.Common.{None, nat_eq, refl, sym, ap, ◌∙◌, arith}
use Rattle.std.proofs.lemmas.Bool.{cases_eq, eqb-true}
use Rattle.w32_base.specs.declared.entry.Directive.{Directive}
use Rattle.w32_base.specs.declared.entry.Directive.TheVariants as directive
use Rattle.script_spec.specs.declared.script.Script.{Script}
use Rattle.win32_spec.specs.LookupLaws.{and_true}
use Rattle.win32_spec.specs.Lookup.{process_in}
use Rattle.win32_spec.specs.MemoryEffects.{HaveRegisters}
use Rattle.win32_spec.specs.State.{Process, Win32State}
use Rattle.layer_spec.specs.Decoding.{main_image, main_of}
use Rattle.layer_spec.specs.Moment.{HistoryStep, seen_with}
use Rattle.layer_spec.specs.Rows.{MainWord, RowKind, Free, Held, Running, Stopped, Zombie, Gone, is_process_kind}
use Rattle.layer_spec.specs.Rows.{is_live_kind}
use Rattle.layer_spec.specs.Turns.{is_process, is_thread_turn}
use Rattle.layer_spec.specs.Words.{claimed_in, main_at}
use Rattle.roster.specs.Words.{is_live_word, is_process_word, is_live_main, is_process_main}
use Rattle.world_spec.specs.Made.{IsClaimedBy}
use Rattle.world_spec.specs.Facts.{Names}
use Rattle.world_spec.specs.Sound.{AreRowsSound, HaveOneRoster, IsSoundMoment}
use Rattle.world_spec.specs.SeenStep.{IsSeenStep}
use Rattle.world_spec.specs.CodeLaws.{end_ends}
use Rattle.world_spec.specs.CodeLawsStep.{codes-step, first-step}
use Rattle.world_spec.specs.FirstLawsRow.{next-after, made-after}
use Rattle.world_spec.specs.KeyLaws.{keys-step}
use Rattle.world_spec.specs.PosixLaws.{posix-formed}
use Rattle.world_spec.specs.RosterMutexLaws.{mutex-step}
use Rattle.world_spec.specs.HostLaws.{after_formed, hosted-step}

-- a live row is a process
pub live_is_process : (w : ℕ) → is_live_word w ≡ true → is_process_word w ≡ true
live_is_process w e = by_main (main_of w) e
  where
    by_kind : (k : RowKind) → is_live_kind k ≡ true → is_process_kind k ≡ true
    by_kind Free e = absurd (cc)
    by_kind Held e = absurd (cc)
    by_kind Running e = refl
    by_kind Stopped e = refl
    by_kind Zombie e = refl
    by_kind Gone e = absurd (cc)

    by_main : (o : Option MainWord) → is_live_main o ≡ true → is_process_main o ≡ true
    by_main None e = absurd (cc)
    by_main (Some m) e = by_kind m.kind e

-- a turn is that of one process
one_turn : (s : Win32State) (d : Directive) (v w t u : ℕ) → is_thread_turn s d v t ≡ true
    → is_thread_turn s d w u ≡ true
    → v ≡ w
one_turn s (directive.Turn slot x) v w t u e f =
    by_process (process_in s.processes slot)
    (and_true (is_process (process_in s.processes slot) v) (nat_eq x t) e).0
    (and_true (is_process (process_in s.processes slot) w) (nat_eq x u) f).0
  where
    by_process : (o : Option Process) → is_process o v ≡ true → is_process o w ≡ true → v ≡ w
    by_process None a b = absurd (let c : false ≡ true = a in cc)
    by_process (Some p) a b = sym (eqb-true p.number v a) ∙ eqb-true p.number w b
one_turn s (directive.End slot) v w t u e f = absurd (let c : false ≡ true = e in cc)
one_turn s (directive.Key b) v w t u e f = absurd (let c : false ≡ true = e in cc)

-- a live row has a record that is alive
pub live_record : (script : Script) (s : Win32State) (p : PosixState) (row : ℕ) → is_live_word (main_at s row) ≡ true
    → ShowsRow script (λ q. q.own) s p row
    → (r : Record) × (record_of p (row + 1) ≡ Some r) × (is_live r.life ≡ true)
live_record script s p row live h = by_record (record_of p (row + 1)) refl h.shown
  where
    is_main : is_live_kind h.main.kind ≡ true
    is_main = sym (ap is_live_main h.decodes) ∙ live

    by_life : (k : RowKind) (stop status : ℕ) (life : Life) → is_live_kind k ≡ true → life_by k stop status ≡ Some life
        → is_live life ≡ true
    by_life Free stop status life a e = absurd (let f : false ≡ true = a in cc)
    by_life Held stop status life a e = absurd (let f : false ≡ true = a in cc)
    by_life Running stop status life a e = let f : posix.Running ≡ life = cc in subst (λ x. is_live x ≡ true) f refl
    by_life Stopped stop status life a e = let f : posix.Stopped stop ≡ life = cc in subst
        (λ x. is_live x ≡ true) f refl
    by_life Zombie stop status life a e = absurd (let f : false ≡ true = a in cc)
    by_life Gone stop status life a e = absurd (let f : false ≡ true = a in cc)

    of_kind : (k : RowKind) → is_live_kind k ≡ true → is_process_kind k ≡ false → ⊥
    of_kind Running a e = let f : true ≡ false = e in cc
    of_kind Stopped a e = let f : true ≡ false = e in cc
    of_kind Free a e = let f : false ≡ true = a in cc
    of_kind Held a e = let f : false ≡ true = a in cc
    of_kind Zombie a e = let f : false ≡ true = a in cc
    of_kind Gone a e = let f : false ≡ true = a in cc

    by_record : (o : Option Record) → record_of p (row + 1) ≡ o
        → MatchOption o (is_process_kind h.main.kind ≡ false) (λ r. ShowsRecord script (λ q. q.own) s p row h.main r)
        → (r : Record) × (record_of p (row + 1) ≡ Some r) × (is_live r.life ≡ true)
    by_record None e m = absurd (of_kind h.main.kind is_main m)
    by_record (Some r) e m = (r, e, by_life h.main.kind h.main.stop h.main.status r.life is_main m.life)

module _ {A : Type 0} (script : Script) (step : HistoryStep A) (registers : HaveRegisters script)
    (ranges : HasRanges script) (seen : IsSeenStep script step) where
  abbrev rows : AreRowsSound step.past step.before.win32
  rows = seen.before.rows

  within_after : (row w : ℕ) → IsClaimedBy (seen_with step) row w → row ≤ claimed_in step.after.win32
  within_after row w claim = elim claim [
    | inl here ↦ let c = seen.shows.facts.words.claims row w here in omega (arith, c.1)
    | inr before ↦ let l = rows.within row w before in omega (arith, l, seen.shows.facts.words.grows)
  ]

  once_after : (row v w : ℕ) → IsClaimedBy (seen_with step) row v → IsClaimedBy (seen_with step) row w → v ≡ w
  once_after row v w a b = elim a [
    | inl x ↦ elim b [
      | inl y ↦ one_turn step.before.win32 step.entry.directive v w 0 0 x.turn y.turn
      | inr y ↦
          let c = seen.shows.facts.words.claims row v x in
          let l = rows.within row w y in absurd (omega (arith, c.0, l))
    ]
    | inr x ↦ elim b [
      | inl y ↦
          let c = seen.shows.facts.words.claims row w y in
          let l = rows.within row v x in absurd (omega (arith, c.0, l))
      | inr y ↦ rows.once row v w x y
    ]
  ]

  -- a live row named the same image before, or comes to name its image in this step
  comes_to : (row : ℕ) → 1 ≤ row → is_live_word (main_at step.after.win32 row) ≡ true
      → ((is_live_word (main_at step.before.win32 row) ≡ true)
      × (main_image (main_at step.after.win32 row) ≡ main_image (main_at step.before.win32 row))) ⊎ Names step row
  comes_to row from live = by_test (is_live_word (main_at step.before.win32 row)) refl
    where
      by_test : (b : Bool) → is_live_word (main_at step.before.win32 row) ≡ b
          → ((is_live_word (main_at step.before.win32 row) ≡ true)
          × (main_image (main_at step.after.win32 row) ≡ main_image (main_at step.before.win32 row))) ⊎ Names step row
      by_test false e = inr (seen.shows.facts.words.names row from live (inl e))
      by_test true e =
          elim (cases_eq (main_image (main_at step.after.win32 row)) (main_image (main_at step.before.win32 row))) [
            | inl same ↦ inl (e, same)
            | inr differs ↦ inr (seen.shows.facts.words.names row from live (inr differs))
          ]

  -- a live row that names the first process is row 1: no row comes to name it
  first_row_after : (row : ℕ) → 1 ≤ row → is_live_word (main_at step.after.win32 row) ≡ true
      → main_image (main_at step.after.win32 row) ≡ 2 → row ≡ 1
  first_row_after row from live image = elim (comes_to row from live) [
    | inl was ↦ seen.before.first_row.row row from was.0 (sym was.1 ∙ image)
    | inr names ↦
        let three = seen.before.first_row.made names.turn.maker (main_image (main_at step.after.win32 row))
        names.turn.made in absurd (omega (arith, three, image))
  ]

  -- a row that comes to name an image is the only live one that names it
  newly : (a b : ℕ) → 1 ≤ b → is_live_word (main_at step.after.win32 b) ≡ true
      → main_image (main_at step.after.win32 a) ≡ main_image (main_at step.after.win32 b) → a ≢ b → Names step a → ⊥
  newly a b from live same d names =
      let stays = names.others b from (λ e. d (sym e)) in
      names.turn.unnamed (record {
        row = b;
        from = from;
        process = live_is_process (main_at step.before.win32 b) (ap is_live_word (sym stays) ∙ live);
        image = ap main_image (sym stays) ∙ sym same;
      })

  apart_after : (a b : ℕ) → 1 ≤ a → 1 ≤ b → is_live_word (main_at step.after.win32 a) ≡ true
      → is_live_word (main_at step.after.win32 b) ≡ true
      → main_image (main_at step.after.win32 a) ≡ main_image (main_at step.after.win32 b) → a ≡ b
  apart_after a b from_a from_b live_a live_b same = elim (cases_eq a b) [
    | inl e ↦ e
    | inr d ↦ elim (comes_to a from_a live_a) [
      | inl x ↦ elim (comes_to b from_b live_b) [
        | inl y ↦ rows.apart a b from_a from_b x.0 y.0 (sym x.1 ∙ (same ∙ y.1))
        | inr y ↦ absurd (newly b a from_a live_a (sym same) (λ e. d (sym e)) y)
      ]
      | inr x ↦ absurd (newly a b from_b live_b same d x)
    ]
  ]

  -- where a live row's image ends in a step, the step is the `end` that ended it
  ends_here : (row : ℕ) → 1 ≤ row → is_live_word (main_at step.before.win32 row) ≡ true
      → is_live_process step.before.win32 (main_image (main_at step.before.win32 row)) ≡ true
      → is_live_process step.after.win32 (main_image (main_at step.before.win32 row)) ≡ false
      → is_end_of step.entry.outcome (main_image (main_at step.before.win32 row)) ≡ true
  ends_here row from live alive dead =
      by_test (is_end step.entry.directive) refl
    where
      by_test : (b : Bool) → is_end step.entry.directive ≡ b
          → is_end_of step.entry.outcome (main_image (main_at step.before.win32 row)) ≡ true
      by_test true e = end_ends script step.before.win32 step.entry.directive step.entry.call step.entry.outcome
          step.after.win32 (main_image (main_at step.before.win32 row)) seen.win32 e alive dead
      by_test false e =
          let r = live_record script step.before.win32 step.before.posix row live (seen.before.decodes.rows row from) in
          let same : row + 1 - 1 ≡ row = omega arith in
          let lives = seen.shows.discipline.lives e (row + 1) r.0 r.1 r.2
          (subst (λ k. is_live_process step.before.win32 (main_image (main_at step.before.win32 k)) ≡ true) (sym same)
          alive) in
          let after = subst (λ k. is_live_process step.after.win32 (main_image (main_at step.before.win32 k)) ≡ true)
          same
          lives in
          absurd (let f : true ≡ false = sym after ∙ dead in cc)

  ended_after : (row : ℕ) → 1 ≤ row → is_live_word (main_at step.after.win32 row) ≡ true
      → is_live_process step.after.win32 (main_image (main_at step.after.win32 row)) ≡ false
      → was_ended (seen_with step) (main_image (main_at step.after.win32 row)) ≡ true
  ended_after row from live dead = elim (comes_to row from live) [
    | inl was ↦
        let gone = subst (λ k. is_live_process step.after.win32 k ≡ false) was.1 dead in
        subst (λ k. was_ended (seen_with step) k ≡ true) (sym was.1) (by_test was.0 gone
        (is_live_process step.before.win32 (main_image (main_at step.before.win32 row))) refl)
    | inr names ↦ elim names.lives [
      | inl alive ↦ absurd (let f : true ≡ false = sym alive ∙ dead in cc)
      | inr ended ↦ ended
    ]
  ]
    where
      by_test : is_live_word (main_at step.before.win32 row) ≡ true
          → is_live_process step.after.win32 (main_image (main_at step.before.win32 row)) ≡ false → (b : Bool)
          → is_live_process step.before.win32 (main_image (main_at step.before.win32 row)) ≡ b
          → was_ended (seen_with step) (main_image (main_at step.before.win32 row)) ≡ true
      by_test was gone true e =
          or_left (is_end_of step.entry.outcome (main_image (main_at step.before.win32 row)))
          (was_ended step.past (main_image (main_at step.before.win32 row))) (ends_here row from was e gone)
      by_test was gone false e =
          or_right (is_end_of step.entry.outcome (main_image (main_at step.before.win32 row)))
          (was_ended step.past (main_image (main_at step.before.win32 row))) (rows.ended row from was e)

  one_roster : HaveOneRoster step.after.win32
  one_roster v w m n live_v live_w named_v named_w =
      let a = seen.shows.facts.processes.roster_handles v m live_v named_v in
      let b = seen.shows.facts.processes.roster_handles w n live_w named_w in
      seen.before.roster a.0 b.0 m n a.1 b.1 a.2 b.2

  pub rows-step : AreRowsSound (seen_with step) step.after.win32
  rows-step = record {
    few = omega (arith, rows.few, seen.shows.facts.words.by_one);
    blank = λ row above.
        let low : claimed_in step.before.win32 < row = omega (arith, above, seen.shows.facts.words.grows) in
        let stays = seen.shows.facts.words.unclaimed row low in
        let was = rows.blank row low in
        record { main = stays.main ∙ was.main; group = stays.group ∙ was.group; exit = stays.exit ∙ was.exit };
    within = within_after;
    once = once_after;
    apart = apart_after;
    ended = ended_after;
  }

  pub sound-step : IsSoundMoment script (seen_with step) step.after
  sound-step = record {
    formed = after_formed script step registers seen;
    hosted = hosted-step script step registers seen;
    decodes = seen.shows.decodes;
    rows = rows-step;
    roster = one_roster;
    mutex = mutex-step script step registers seen;
    keys = keys-step script step.before.win32 step.entry.directive step.entry.call step.entry.outcome step.after.win32
        seen.taken seen.before.keys seen.win32;
    codes = codes-step script step registers seen;
    first = first-step script step registers seen;
    first_row = record {
      next = next-after script step registers seen;
      made = made-after script step registers seen;
      row = first_row_after;
    };
    posix = posix-formed script step ranges seen;
  }
