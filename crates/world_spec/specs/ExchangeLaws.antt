-- What a compare-exchange comes to: it found the old word, and this one word changed; or it found another one or no
-- word, and nothing changed.
use Rattle.std.proofs.Common.{◌≡◌, ◌≢◌, ◌⊎◌, inl, inr, ℕ, ◌<◌, Bool, true, false, nat_eq, nat_lt, if◌then◌else◌, List}
use Rattle.std.proofs.Common.{Option}
use Rattle.std.proofs.Common.{Some, None, slice_index, slice_set, length, refl, sym, ap, ◌∙◌, subst}
use Rattle.std.proofs.lemmas.Bool.{eqb-true, ltb-true}
use Rattle.std.proofs.lemmas.List.{get_or-set_same, get_or-set_other}
use Rattle.w32_base.specs.declared.call.Reply.{Reply}
use Rattle.w32_base.specs.declared.call.Reply.TheVariants as reply
use Rattle.script_spec.specs.declared.script.Script.{Script}
use Rattle.win32_spec.specs.Lookup.{terminal_in}
use Rattle.win32_spec.specs.LookupLaws.{same}
use Rattle.win32_spec.specs.Named.{Gives}
use Rattle.win32_spec.specs.State.{Win32State}
use Rattle.win32_spec.specs.WellFormed.{IsWellFormed}
use Rattle.win32_spec.specs.WordCalls.{words_by, with_words, word_reply, after_exchange, ExchangeStep}
use Rattle.layer_spec.specs.Words.{word_in}
use Rattle.world_spec.specs.SectionLaws.{word-before, word-after, terminal-after}

-- all but the words of the section
pub record KeepsRest (s mid : Win32State) : Type 0 where
  pub terminal : terminal_in mid.objects ≡ terminal_in s.objects
  pub processes : mid.processes ≡ s.processes

-- the old word was found, and this one word changed
pub record Exchanges (s : Win32State) (i old new : ℕ) (r : Reply) (mid : Win32State) : Type 0 where
  pub found : r ≡ reply.Word old
  pub was : word_in s i ≡ old
  pub now : word_in mid i ≡ new
  pub others : (j : ℕ) → j ≢ i → word_in mid j ≡ word_in s j
  pub rest : KeepsRest s mid

-- another word was found, or none, and no word changed
pub record FindsOther (s : Win32State) (old : ℕ) (r : Reply) (mid : Win32State) : Type 0 where
  pub other : r ≡ reply.Word old → ⊥
  pub words : (j : ℕ) → word_in mid j ≡ word_in s j
  pub rest : KeepsRest s mid

module _ (script : Script) (s : Win32State) (h : IsWellFormed script s) (w k i old new : ℕ) (r : Reply)
    (mid : Win32State)
  where
    abbrev Result : Type 0
    Result = FindsOther s old r mid ⊎ Exchanges s i old new r mid

    -- the words are as before
    lost : (words : List ℕ) → words_by s w k ≡ Some words → (r ≡ reply.Word old → ⊥) → mid ≡ with_words s w k words
        → Result
    lost words named other e = inl (subst (λ m. FindsOther s old r m) (sym e) (record {
      other = other;
      words = λ j. word-after script s h w k words words named j ∙ sym (word-before script s h w k words words named j);
      rest = record { terminal = terminal-after script s h w k words words named; processes = refl };
    }))

    won : (words : List ℕ) → words_by s w k ≡ Some words → i < length words → slice_index words i ≡ old
        → r ≡ reply.Word (slice_index words i) → mid ≡ with_words s w k (slice_set words i new) → Result
    won words named within was answer e = inr (subst (λ m. Exchanges s i old new r m) (sym e) (record {
      found = answer ∙ ap (λ n. reply.Word n) was;
      was = word-before script s h w k words words named i ∙ was;
      now = word-after script s h w k words (slice_set words i new) named i ∙ get_or-set_same words i new 0 within;
      others = λ j d. word-after script s h w k words (slice_set words i new) named j
          ∙ (get_or-set_other words i j new 0 d ∙ sym (word-before script s h w k words words named j));
      rest = record {
        terminal = terminal-after script s h w k words (slice_set words i new) named;
        processes = refl;
      };
    }))

    pub exchange-cases : ExchangeStep s w k i old new r mid → Result
    exchange-cases step = by_words (words_by s w k) refl step
      where
        by_words : (o : Option (List ℕ)) → words_by s w k ≡ o
            → Gives (word_reply o i) (after_exchange s w k o i old new) r mid → Result
        by_words None named m = inl (subst (λ x. FindsOther s old r x) (sym m.1) (record {
          other = λ found. let e : reply.BadHandle ≡ reply.Word old = sym m.0 ∙ found in cc;
          words = λ j. refl;
          rest = record { terminal = refl; processes = refl };
        }))
        by_words (Some words) named m = by_within (nat_lt i (length words)) refl m.0 m.1
          where
            by_found : (b : Bool) → nat_eq (slice_index words i) old ≡ b → i < length words
                → r ≡ reply.Word (slice_index words i)
                → mid ≡ with_words s w k (if b then slice_set words i new else words) → Result
            by_found true e within answer is =
                won words named within (eqb-true (slice_index words i) old e) answer is
            by_found false e within answer is = lost words named (λ found.
                let f : reply.Word (slice_index words i) ≡ reply.Word old = sym answer ∙ found in
                let g : slice_index words i ≡ old = cc in
                let t : true ≡ false = sym (same old old refl) ∙ (ap (λ n. nat_eq n old) (sym g) ∙ e) in cc) is

            by_within : (b : Bool) → nat_lt i (length words) ≡ b
                → r ≡ (if b then reply.Word (slice_index words i) else reply.BadIndex)
                → mid ≡ with_words s w k (if b then (if nat_eq (slice_index words i) old then slice_set words i new
                else words) else words) → Result
            by_within true e answer is =
                by_found (nat_eq (slice_index words i) old) refl (ltb-true i (length words) e) answer is
            by_within false e answer is =
                lost words named (λ found. let f : reply.BadIndex ≡ reply.Word old = sym answer ∙ found in cc) is
