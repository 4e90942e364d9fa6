-- A step without an event that makes a calm change by a plain call, or by none, shows all that is to show. So does one
-- that makes a steady change.
use Rattle.std.proofs.Common.{◌≡◌, ◌⊎◌, inl, inr, ℕ, ◌<◌, true, false, List, Option, Some, None, MatchOption}
use Rattle.std.proofs.Common.{length, sym, ap, ◌∙◌, subst, arith}
use Rattle.w32_base.specs.Part.{KeepsImage}
use Rattle.w32_base.specs.declared.own.Own.{Own}
use Rattle.w32_base.specs.declared.call.Call.{Call}
use Rattle.w32_base.specs.declared.call.Call.TheVariants as call
use Rattle.w32_base.specs.declared.entry.Directive.{Directive}
use Rattle.script_spec.specs.declared.script.Script.{Script}
use Rattle.win32_spec.specs.Handles.{handle_of}
use Rattle.win32_spec.specs.Effects.{IsWriteTo}
use Rattle.win32_spec.specs.Facts.{IsTurnOfThread, IsWrittenTo}
use Rattle.win32_spec.specs.State.{Process, Win32State}
use Rattle.win32_spec.specs.Lookup.{is_alive, is_live}
use Rattle.win32_spec.specs.Lookup.{process_of, thread_of, memory_of, memory_by}
use Rattle.win32_spec.specs.Named.{handles_of, named_by}
use Rattle.win32_spec.specs.FormedLaws.{live_found, found_live}
use Rattle.win32_spec.specs.LookupLaws.{same_some}
use Rattle.roster.specs.Turns.{roster_handle}
use Rattle.posix_spec.specs.Run.{PosixStep}
use Rattle.layer_spec.specs.Decodes.{Decodes}
use Rattle.layer_spec.specs.Decoding.{main_image}
use Rattle.layer_spec.specs.Discipline.{is_create, is_claim, is_end}
use Rattle.layer_spec.specs.Evidence.{HasEvidence}
use Rattle.layer_spec.specs.HeapReads.{child_count_in, child_in}
use Rattle.layer_spec.specs.Moment.{HistoryStep, Seen}
use Rattle.layer_spec.specs.Rows.{main_place, group_place, exit_place}
use Rattle.layer_spec.specs.Turns.{is_live_process}
use Rattle.layer_spec.specs.Words.{word_in}
use Rattle.roster.specs.Words.{is_process_word, is_live_word}
use Rattle.world_spec.specs.Facts.{EndsWithin, KeepsWords, KeepsProcesses, KeepsChildren, RowStays, suspended_by}
use Rattle.world_spec.specs.SeenStep.{ShowsStep}
use Rattle.world_spec.specs.DecodesLaws.{AreShownTheSame, decodes-stays}
use Rattle.world_spec.specs.Calm.{AreCalm, IsCalm, is_plain_call, is_plain}
use Rattle.world_spec.specs.Made.{opener_of}
use Rattle.world_spec.specs.Steady.{SteadyProcess, AreSteady, IsSteady, are_steady, calm-steady}

-- Where no word changes and no row is claimed, the facts of the words hold.
pub words-kept : {A : Type 0} → (step : HistoryStep A)
    → ((i : ℕ) → word_in step.after.win32 i ≡ word_in step.before.win32 i)
    → is_plain step.entry.call ≡ true → KeepsWords step
words-kept step same plain = record {
  grows = omega (arith, same 0);
  by_one = omega (arith, same 0);
  claims = λ row w claim. absurd (let e : false ≡ true = ap is_plain (sym claim.asks) ∙ plain in cc);
  mains = λ row from. inl (same (main_place row));
  unclaimed = λ row above. row_stays row;
  claimed = λ row w claim is_open apart. row_stays row;
  holder = λ w t holds apart. record {
    processes = λ row from. ap is_process_word (same (main_place row));
    groups = λ row from is. same (group_place row);
    deaths = λ row from dead. ap is_live_word (same (main_place row)) ∙ dead;
  };
  exits = λ row from is. inl (same (exit_place row));
  images = λ row from live lives. inl (ap main_image (same (main_place row)));
  seals = λ row from live dead. absurd (
      let e : true ≡ false = sym live ∙ (sym (ap is_live_word (same (main_place row))) ∙ dead) in cc);
  names = λ row from live other. absurd (elim other [
    | inl dead ↦ let e : true ≡ false = sym live ∙ (ap is_live_word (same (main_place row)) ∙ dead) in cc
    | inr differs ↦ differs (ap main_image (same (main_place row)))
  ]);
}
  where
    row_stays : (row : ℕ) → RowStays step.before.win32 step.after.win32 row
    row_stays row =
        record { main = same (main_place row); group = same (group_place row); exit = same (exit_place row) }

-- a plain call writes no bytes of another process
plain_writes : (c : Call) (s : Win32State) (w v : ℕ) → is_plain_call c ≡ true → IsWriteTo s w c v → ⊥
plain_writes (call.WriteMemory h region place own_region own_place count) s w v e writes =
    absurd (let f : false ≡ true = e in cc)
plain_writes c s w v e writes = writes

pub plain_written : (s : Win32State) (d : Directive) (c : Option Call) (v : ℕ) → is_plain c ≡ true
    → IsWrittenTo s d c v → ⊥
plain_written s d None v e written = written
plain_written s d (Some c) v e written = plain_writes c s written.0 v e written.2

-- it is none of those that the discipline speaks of
pub is_no_create : (c : Option Call) → is_plain c ≡ true → is_create c ≡ true → ⊥
is_no_create None e f = absurd (let g : false ≡ true = f in cc)
is_no_create (Some (call.Create program_no list)) e f = absurd (let g : false ≡ true = e in cc)
is_no_create (Some c) e f = absurd (let g : false ≡ true = f in cc)

pub is_no_claim : (c : Option Call) → is_plain c ≡ true → is_claim c ≡ true → ⊥
is_no_claim None e f = absurd (let g : false ≡ true = f in cc)
is_no_claim (Some (call.FetchAdd h i n)) e f = absurd (let g : false ≡ true = e in cc)
is_no_claim (Some c) e f = absurd (let g : false ≡ true = f in cc)

-- what is calm shows the same
pub calm_shown : (s new : Win32State) → AreCalm s new → AreShownTheSame s new
calm_shown s new calm v q f alive =
    let at = calm v q f alive in
    (at.0, (at.1, at.2, record { image = at.3.image; cyg = at.3.cyg; placed = at.3.placed }))

-- what is steady shows the same
steady_shown : {A : Type 0} → (past : List (Seen A)) (s new : Win32State) (d : Directive) → AreSteady past s d new
    → AreShownTheSame s new
steady_shown past s new d steady v q f alive =
    let at = steady v q f alive in
    (at.0, (at.1, at.2, record { image = at.3.image; cyg = at.3.cyg; placed = at.3.placed }))

-- where the whole cygheap is as before, its list of children is
same_children : (old new : Own) → new.cyg ≡ old.cyg → KeepsChildren old new
same_children old new e = record {
  length_is = ap length e;
  count = ap child_count_in e;
  numbers = λ i within. ap (λ bytes. (child_in bytes i).number) e;
}

-- nobody ends but by an `end`
abbrev pub NobodyEnds : {A : Type 0} → HistoryStep A → Type 0
NobodyEnds step = is_end step.entry.directive ≡ false → (v : ℕ) → is_live_process step.before.win32 v ≡ true
    → is_live_process step.after.win32 v ≡ true

-- Then there is nothing to show of codes.
pub nobody-ends : {A : Type 0} → (step : HistoryStep A) → NobodyEnds step → EndsWithin step
nobody-ends step lives no_end v code is = absurd (
    let dead : is_live_process step.after.win32 v ≡ false = ap is_live is.found ∙ ap is_alive is.life in
    let e : true ≡ false = sym (lives no_end v is.before) ∙ dead in cc)

module _ {A : Type 0} (step : HistoryStep A)
    (steady : AreSteady step.past step.before.win32 step.entry.directive step.after.win32) where
  -- what is found of a process that is alive after it
  was : (v : ℕ) → is_live_process step.after.win32 v ≡ true
      → (q : Process) × (p : Process) × (process_of step.after.win32.processes v ≡ Some q)
      × (process_of step.before.win32.processes v ≡ Some p)
      × SteadyProcess step.past step.before.win32 step.entry.directive v p q
  was v live =
      let q = live_found (process_of step.after.win32.processes v) live in
      let p = steady v q.0 q.1 q.2 in (q.0, p.0, q.1, p.1, p.3)

  image_kept : (v : ℕ) → is_live_process step.after.win32 v ≡ true
      → KeepsImage (memory_by step.before.win32 v) (memory_by step.after.win32 v)
  image_kept v live =
      let at = was v live in
      subst (λ o. KeepsImage (memory_of o) (memory_by step.after.win32 v)) (sym at.3)
      (subst (λ o. KeepsImage at.1.own (memory_of o)) (sym at.2) at.4.image)

  children_kept : (v : ℕ) → is_live_process step.after.win32 v ≡ true
      → KeepsChildren (memory_by step.before.win32 v) (memory_by step.after.win32 v)
  children_kept v live =
      let at = was v live in
      same_children (memory_by step.before.win32 v) (memory_by step.after.win32 v)
      (ap (λ o. let m : Own = memory_of o in m.cyg) at.2
      ∙ (at.4.cyg ∙ sym (ap (λ o. let m : Own = memory_of o in m.cyg) at.3)))

  still_named : (v h names : ℕ) → named_by step.before.win32 v h ≡ Some names
      → is_live_process step.after.win32 v ≡ true
      → (named_by step.after.win32 v h ≡ Some names)
      ⊎ ((8 < h) × IsTurnOfThread step.before.win32 step.entry.directive v (opener_of step.past v h))
  still_named v h names named live =
      let at = was v live in
      elim (at.4.handles h names (ap (λ o. handle_of (handles_of o) h) (sym at.3) ∙ named)) [
        | inl stays ↦ inl (ap (λ o. handle_of (handles_of o) h) at.2 ∙ stays)
        | inr goes ↦ inr goes
      ]

  -- So the facts of processes hold, whatever becomes of the words, where the call writes no other process's bytes, and
  -- who ends does so within what is kept of codes.
  pub processes-steady : ((v : ℕ) → IsWrittenTo step.before.win32 step.entry.directive step.entry.call v → ⊥)
      → EndsWithin step → KeepsProcesses step
  processes-steady unwritten within = record {
    ends = within;
    low_handles = λ v h names few named live. elim (still_named v h names named live) [
      | inl stays ↦ stays
      | inr goes ↦ absurd (omega (arith, few, goes.0))
    ];
    own_handles = λ v h names named live other. elim (still_named v h names named live) [
      | inl stays ↦ stays
      | inr goes ↦ absurd (other goes.1)
    ];
    roster_handles = λ v names live named.
        let at = was v live in
        let p = steady v at.0 at.2 (let q = live_found (process_of step.after.win32.processes v) live in
        ap (λ (x : Process). is_alive x.life)
        (same_some (process_of step.after.win32.processes v) at.0 q.0 at.2 q.1) ∙ q.2) in (
          v,
          found_live (process_of step.before.win32.processes v) p.0 p.1 p.2,
          ap (λ o. handle_of (handles_of o) roster_handle) p.1 ∙ (sym p.3.roster
              ∙ (sym (ap (λ o. handle_of (handles_of o) roster_handle) at.2) ∙ named)),
        );
    writes = λ v written. absurd (unwritten v written);
    unnamed = λ v is acts live. image_kept v live;
    helpers = λ v t acts other live. image_kept v live;
    children = λ v t acts other live. children_kept v live;
    suspends = λ v t before live.
        let at = was v live in
        elim (at.4.suspended t) [
          | inl stays ↦ inl (ap (λ o. suspended_by (thread_of o t)) at.2
              ∙ (stays ∙ sym (ap (λ o. suspended_by (thread_of o t)) at.3)))
          | inr acts ↦ inr (inl acts)
        ];
  }

-- The same of a calm change.
pub processes-kept : {A : Type 0} → (step : HistoryStep A) → AreCalm step.before.win32 step.after.win32
    → ((v : ℕ) → IsWrittenTo step.before.win32 step.entry.directive step.entry.call v → ⊥)
    → EndsWithin step → KeepsProcesses step
processes-kept step calm =
    processes-steady step
    (are_steady step.past step.before.win32 step.entry.directive step.after.win32 calm)

module _ {A : Type 0} (script : Script) (step : HistoryStep A)
    (steady : IsSteady step.past step.before.win32 step.entry.directive step.after.win32) where
  -- All that is to show of such a step. Only an `end` may end a process in it, and nothing ends the host.
  pub steady-shows : step.entry.event ≡ None → step.after.posix ≡ step.before.posix → is_plain step.entry.call ≡ true
      → NobodyEnds step
      → (is_live_process step.before.win32 1 ≡ true → is_live_process step.after.win32 1 ≡ true)
      → Decodes script step.before.win32 step.before.posix → ShowsStep script step
  steady-shows told posix plain lives host decoded = record {
    posix = subst (λ o. MatchOption o (step.after.posix ≡ step.before.posix)
        (λ e. PosixStep script step.before.posix e step.after.posix)) (sym told) posix;
    discipline = record {
      creates = λ is. absurd (is_no_create step.entry.call plain is);
      claims = λ is. absurd (is_no_claim step.entry.call plain is);
      claimed = λ is. steady.words 0;
      above = λ i far. steady.words i;
      modules = λ w m called acts. absurd (let e : false ≡ true = ap is_plain (sym called) ∙ plain in cc);
      lives = λ no_end p r known live image. lives no_end _ image;
      keys = λ p b. (
        λ keyed. absurd (let e = sym told ∙ keyed in cc),
        λ takes. absurd (let e : false ≡ true = ap is_plain (sym takes.1.asks) ∙ plain in cc),
      );
    };
    evidence = subst (λ o. MatchOption o (Unit {0}) (λ e. HasEvidence script step e)) (sym told) tt;
    decodes = subst (λ p. Decodes script step.after.win32 p) (sym posix)
        (decodes-stays script step.before.win32 step.after.win32 step.before.posix
        (steady_shown step.past step.before.win32 step.after.win32 step.entry.directive steady.processes) steady.words
        steady.terminal decoded);
    facts = record {
      words = words-kept step steady.words plain;
      processes = processes-steady step steady.processes
          (λ v written. plain_written step.before.win32 step.entry.directive step.entry.call v plain written)
          (nobody-ends step lives);
      host = host;
    };
  }

-- The same of a calm change.
pub calm-shows : {A : Type 0} → (script : Script) (step : HistoryStep A) → IsCalm step.before.win32 step.after.win32
    → step.entry.event ≡ None → step.after.posix ≡ step.before.posix → is_plain step.entry.call ≡ true
    → NobodyEnds step
    → (is_live_process step.before.win32 1 ≡ true → is_live_process step.after.win32 1 ≡ true)
    → Decodes script step.before.win32 step.before.posix → ShowsStep script step
calm-shows script step calm =
    steady-shows script step
    (calm-steady step.past step.before.win32 step.entry.directive step.after.win32 calm)
