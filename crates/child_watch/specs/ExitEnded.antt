-- The row of a process that has died stays one, whatever op of the table changes its main word.
use Rattle.std.proofs.Common.{◌≡◌, inl, inr, ℕ, true, false, Option, Some, None, refl, ap, ◌∙◌, subst}
use Rattle.std.specs.Option.{option_map}
use Rattle.layer_spec.specs.Decoding.{main_of}
use Rattle.layer_spec.specs.RowLaws.{main_words}
use Rattle.layer_spec.specs.Rows.{RowKind, Free, Held, Running, Stopped, Zombie, Gone, MainWord, main_word_of, IsMain}
use Rattle.layer_spec.specs.TransitionLaws.{trans_keeps_legal}
use Rattle.layer_spec.specs.Transitions.{Op, Hold, Drop, Publish, Post, Probe, Clear, Stop, TakeOver, Seal, Report}
use Rattle.layer_spec.specs.Transitions.{Reap}
use Rattle.layer_spec.specs.Transitions.{Collect, trans, by_kind, held, gone, published, posted, woken, cleared}
use Rattle.layer_spec.specs.Transitions.{stopped, taken_over, sealed, reported}
use Rattle.roster.specs.Words.{changed_main}
use Rattle.world_spec.specs.Facts.{ChangesByTable}
use Rattle.child_watch.specs.ExitClause.{is_ended_kind, is_ended_main, is_ended_word}

abbrev IfEnded : Option MainWord → Type 0
IfEnded None = Unit {0}
IfEnded (Some n) = is_ended_kind n.kind ≡ true

-- a line of the table, by its last two columns
ended_line : (k : RowKind) (a b c d e f : Option MainWord) → is_ended_kind k ≡ true → (k ≡ Zombie → IfEnded e)
    → IfEnded f → IfEnded (by_kind k a b c d e f)
ended_line Free a b c d e f ended zombie done = absurd (let g : false ≡ true = ended in cc)
ended_line Held a b c d e f ended zombie done = absurd (let g : false ≡ true = ended in cc)
ended_line Running a b c d e f ended zombie done = absurd (let g : false ≡ true = ended in cc)
ended_line Stopped a b c d e f ended zombie done = absurd (let g : false ≡ true = ended in cc)
ended_line Zombie a b c d e f ended zombie done = zombie refl
ended_line Gone a b c d e f ended zombie done = done

ended_trans : (m : MainWord) (op : Op) → is_ended_kind m.kind ≡ true → IfEnded (trans m op)
ended_trans m Hold e = ended_line m.kind (Some held) None None None None None e (λ k. tt) tt
ended_trans m Drop e = ended_line m.kind None (Some gone) None None None None e (λ k. tt) tt
ended_trans m (Publish image) e = ended_line m.kind None (Some (published image)) None None None None e (λ k. tt) tt
ended_trans m (Post s) e =
    ended_line m.kind None None (Some (posted m s)) (Some (woken m s)) (Some m) None e (λ k. e) tt
ended_trans m Probe e = ended_line m.kind None None (Some m) (Some m) (Some m) None e (λ k. e) tt
ended_trans m (Clear s) e = ended_line m.kind None None (cleared m s) None None None e (λ k. tt) tt
ended_trans m (Stop s) e = ended_line m.kind None None (stopped m s) None None None e (λ k. tt) tt
ended_trans m (TakeOver image) e = ended_line m.kind None None (Some (taken_over m image)) None None None e (λ k. tt) tt
ended_trans m (Seal v) e =
    ended_line m.kind None None (Some (sealed m v)) (Some (sealed m v)) None None e (λ k. tt) tt
ended_trans m Report e = ended_line m.kind None None (reported m 2) (reported m 1) None None e (λ k. tt) tt
ended_trans m Reap e = ended_line m.kind None None None None (Some gone) None e (λ k. refl) tt
ended_trans m Collect e = ended_line m.kind None None None None (Some gone) None e (λ k. refl) tt

pub ended-by-table : (w v : ℕ) → is_ended_word w ≡ true → ChangesByTable w v → is_ended_word v ≡ true
ended-by-table w v ended (inl same) = ap is_ended_word same ∙ ended
ended-by-table w v ended (inr (op, legal, changes)) = by_main (main_of w) refl ended changes
  where
    by_trans : (m : MainWord) → main_of w ≡ Some m → (t : Option MainWord) → trans m op ≡ t → IfEnded t
        → option_map main_word_of t ≡ Some v → is_ended_word v ≡ true
    by_trans m is None t e c = absurd (cc)
    by_trans m is (Some n) t e c =
        let legal_now : IsMain n = trans_keeps_legal m op n (main_words.back w m is).0 legal t in
        let word : main_word_of n ≡ v = cc in
        subst (λ k. is_ended_word k ≡ true) word (ap is_ended_main (main_words.there n legal_now) ∙ e)

    by_main : (o : Option MainWord) → main_of w ≡ o → is_ended_main o ≡ true → changed_main o op ≡ Some v
        → is_ended_word v ≡ true
    by_main None is e c = absurd (let g : false ≡ true = e in cc)
    by_main (Some m) is e c = by_trans m is (trans m op) refl (ended_trans m op e) c
