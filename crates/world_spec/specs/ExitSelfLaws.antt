-- A process that ends itself, with a code below that of an end from outside, and that no live row names: the step shows
-- all that is to show.
use Rattle.std.proofs.Common.{◌≡◌, ◌≢◌, inl, inr, ℕ, ◌+◌, ◌<◌, ◌≤◌, true, false, List, Some, None, IsSome}
use Rattle.std.proofs.Common.{refl, sym, ap, ◌∙◌, subst, arith}
use Rattle.w32_base.specs.declared.call.Call.{Call}
use Rattle.w32_base.specs.declared.call.Call.TheVariants as call
use Rattle.w32_base.specs.declared.call.Reply.{Reply}
use Rattle.w32_base.specs.declared.call.TtyOp.TheVariants as tty
use Rattle.script_spec.specs.declared.script.Script.{Script}
use Rattle.win32_spec.specs.Driven.{Parts}
use Rattle.win32_spec.specs.Effects.{IsWriteTo}
use Rattle.win32_spec.specs.Ends.{with_end}
use Rattle.win32_spec.specs.FormedLaws.{live_found, found_live}
use Rattle.win32_spec.specs.Lookup.{process_of}
use Rattle.win32_spec.specs.Run.{ended_from_outside}
use Rattle.win32_spec.specs.State.{Win32State}
use Rattle.posix_spec.specs.Pending as pending
use Rattle.posix_spec.specs.State as posix
use Rattle.posix_spec.specs.State.{Life, Record, record_of}
use Rattle.layer_spec.specs.Decodes.{life_by}
use Rattle.layer_spec.specs.Decoding.{main_image}
use Rattle.layer_spec.specs.Discipline.{is_create, is_claim, is_exchange, is_module}
use Rattle.layer_spec.specs.Moment.{Moment, Seen, HistoryStep}
use Rattle.layer_spec.specs.Rows.{RowKind, Free, Held, Running, Stopped, Zombie, Gone, is_live_kind, main_place}
use Rattle.layer_spec.specs.Rows.{group_place, exit_place}
use Rattle.layer_spec.specs.Turns.{is_live_process, image_named}
use Rattle.layer_spec.specs.Words.{word_in, row_of, main_at}
use Rattle.roster.specs.Words.{is_live_main, is_live_word, is_process_word}
use Rattle.world_spec.specs.Calm.{IsCalm}
use Rattle.world_spec.specs.CalmLaws.{calm_shown, processes-kept}
use Rattle.world_spec.specs.CalmSteps.{calm-end}
use Rattle.world_spec.specs.CodeLaws.{ends-by}
use Rattle.world_spec.specs.CollectRows.{row-shows}
use Rattle.world_spec.specs.DecodesLaws.{decodes-stays}
use Rattle.world_spec.specs.EndLaws.{process-end_stays}
use Rattle.world_spec.specs.Facts.{EndsWithin, KeepsWords, KeepsProcesses, RowStays}
use Rattle.world_spec.specs.SeenStep.{ShowsStep, turn_step}
use Rattle.world_spec.specs.Sound.{IsSoundMoment}

-- where no word changes and the call claims no row, the facts of the words hold
same_words : {A : Type 0} → (step : HistoryStep A)
    → ((i : ℕ) → word_in step.after.win32 i ≡ word_in step.before.win32 i) → is_claim step.entry.call ≡ false
    → KeepsWords step
same_words step same no_claim = record {
  grows = omega (arith, same 0);
  by_one = omega (arith, same 0);
  claims = λ row w claim. absurd (let e : true ≡ false = sym (ap is_claim claim.asks) ∙ no_claim in cc);
  mains = λ row from. inl (same (main_place row));
  unclaimed = λ row above. row_stays row;
  claimed = λ row w claim is_open apart. row_stays row;
  holder = λ w t holds apart. record {
    processes = λ row from. ap is_process_word (same (main_place row));
    groups = λ row from is. same (group_place row);
    deaths = λ row from dead. ap is_live_word (same (main_place row)) ∙ dead;
  };
  exits = λ row from is. inl (same (exit_place row));
  images = λ row from live lives. inl (ap main_image (same (main_place row)));
  seals = λ row from live dead.
      absurd (let e : true ≡ false = sym live ∙ (sym (ap is_live_word (same (main_place row))) ∙ dead) in cc);
  names = λ row from live other. absurd (elim other [
    | inl dead ↦ let e : true ≡ false = sym live ∙ (ap is_live_word (same (main_place row)) ∙ dead) in cc
    | inr differs ↦ differs (ap main_image (same (main_place row)))
  ]);
}
  where
    row_stays : (row : ℕ) → RowStays step.before.win32 step.after.win32 row
    row_stays row =
        record { main = same (main_place row); group = same (group_place row); exit = same (exit_place row) }

-- the row of a live process is a live one
live_kind : (k : RowKind) (stop status : ℕ) (l : Life) → pending.is_live l ≡ true → life_by k stop status ≡ Some l
    → is_live_kind k ≡ true
live_kind Free stop status l live e = absurd (cc)
live_kind Held stop status l live e = absurd (cc)
live_kind Running stop status l live e = refl
live_kind Stopped stop status l live e = refl
live_kind Zombie stop status l live e = absurd (
    let f : posix.Zombie status ≡ l = cc in
    let g : false ≡ true = ap pending.is_live f ∙ live in cc)
live_kind Gone stop status l live e = absurd (cc)

module _ {A : Type 0} (script : Script) (past : List (Seen A)) (now : Moment A) (slot t : ℕ) (called : Call)
    (reply : Reply) (new : Win32State) (w code : ℕ) (sound : IsSoundMoment script past now) (layer : w ≢ 1)
    (unnamed : (r : ℕ) → 1 ≤ r → is_live_word (main_at now.win32 r) ≡ true → main_image (main_at now.win32 r) ≢ w)
    (small : code < ended_from_outside) (first : w ≡ 2 → now.posix.first_status ≡ Some code)
    (asks : called ≡ call.ExitSelf code) (ends : new ≡ with_end now.win32 w code) where
  calm : IsCalm now.win32 new
  calm = subst (IsCalm now.win32) (sym ends) (calm-end script now.win32 sound.formed sound.hosted w code layer)

  -- every other process lives on
  still : (v : ℕ) → v ≢ w → is_live_process now.win32 v ≡ true → is_live_process new v ≡ true
  still v d live =
      let p = live_found (process_of now.win32.processes v) live in
      ap (λ s. is_live_process s v) ends
      ∙ found_live (process_of (with_end now.win32 w code).processes v) p.0
      (process-end_stays now.win32 w code v p.0 p.1 p.2 d) p.2

  asked : Some called ≡ Some (call.ExitSelf code)
  asked = ap (λ c. Some c) asks

  -- the row of a live record doesn't name it
  others_image : (p : ℕ) (r : Record) → record_of now.posix p ≡ Some r → pending.is_live r.life ≡ true
      → image_named now.win32 p ≢ w
  others_image p r known live names =
      let low : 2 ≤ p = sound.decodes.numbers p (subst (λ o. IsSome o) (sym known) refl) in
      let back : row_of p + 1 ≡ p = omega (arith, low) in
      let from : 1 ≤ row_of p = omega (arith, low) in
      let shown = row-shows script now.win32 now.posix sound.decodes (row_of p) r from
      (ap (record_of now.posix) back ∙ known) in
      unnamed (row_of p) from
      (ap is_live_main shown.1 ∙ live_kind shown.0.kind shown.0.stop shown.0.status r.life live shown.2.life) names

  module _ (parts : Parts A) where
    abbrev step : HistoryStep A
    step = turn_step past now (record { win32 = new; parts = parts; posix = now.posix }) slot t called reply None

    within : EndsWithin step
    within no_end v k is =
        let by = ends-by script step sound.formed w code ends v k is in (
          subst (λ n. n < ended_from_outside) (sym by.1) small,
          λ two. first (sym by.0 ∙ two) ∙ ap (λ n. Some n) (sym by.1),
        )

    processes : KeepsProcesses step
    processes =
        processes-kept step calm.processes
        (λ v written. absurd (subst (λ c. IsWriteTo now.win32 written.0 c v) asks written.2)) within

    pub exitself-shows : ShowsStep script step
    exitself-shows = record {
      posix = refl;
      discipline = record {
        creates = λ is. absurd (let e : false ≡ true = sym (ap is_create asked) ∙ is in cc);
        claims = λ is. absurd (let e : false ≡ true = sym (ap is_claim asked) ∙ is in cc);
        claimed = λ is. absurd (let e : false ≡ true = sym (ap is_exchange asked) ∙ is in cc);
        above = λ i far. calm.words i;
        modules = λ v m other acts. absurd (let e : true ≡ false = ap is_module (sym other) ∙ ap is_module asked in cc);
        lives = λ no_end p r known live image. still (image_named now.win32 p) (others_image p r known live) image;
        keys = λ p b. (
          λ keyed. absurd (cc),
          λ takes. absurd (
              let e : Some (call.Tty takes.1.handle tty.Key) ≡ Some (call.ExitSelf code) =
              sym takes.1.asks ∙ asked in cc),
        );
      };
      evidence = tt;
      decodes = decodes-stays script now.win32 new now.posix (calm_shown now.win32 new calm.processes) calm.words
          calm.terminal sound.decodes;
      facts = record {
        words = same_words step calm.words (ap is_claim asked);
        processes = processes;
        host = λ live. still 1 (λ e. layer (sym e)) live;
      };
    }
