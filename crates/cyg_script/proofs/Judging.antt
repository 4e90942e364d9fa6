-- What a reader answers where something stops it.
use Rattle.std.proofs.Common.{◌≡◌, ℕ, Bool, true, false, List, ◌∷◌, Option, Some, Bor, sym, subst, ◌∙◌}
use Rattle.std.specs.Prelude.{Result, Ok, Err, option_map}
use Rattle.std.specs.Result.{IsErrAnd}
use Rattle.script_spec.specs.declared.fault.FirstWord.{FirstWord}
use Rattle.script_spec.specs.declared.fault.Kind.{Kind}
use Rattle.cyg_script.specs.declared.reader.Stop.{Stop}
use Rattle.cyg_script.specs.declared.reader.Stop.TheVariants as stop
use Rattle.script_spec.specs.FirstWords.{word_text}
use Rattle.script_spec.specs.Front.{words_read}
use Rattle.script_spec.specs.LineFaults.{written_fault}
use Rattle.cyg_script.specs.After.{IsAfter}
use Rattle.cyg_script.specs.Judged.{Judges}
use Rattle.cyg_script.specs.Parts.{Parts}
use Rattle.cyg_script.specs.Words.{words_after}

pub judged_fault : {T : Type 0} (r : Result T Stop) (k : Kind) (fault : Option Kind) (After : Type 0)
    → IsErrAnd r (λ (e : Stop). e ≡ stop.Fault k) → fault ≡ Some k → Judges r fault After
judged_fault (Ok x) k fault After h e = absurd h
judged_fault {T} (Err s) k fault After h e =
    let P : Stop → Type 0 = λ t. Judges {T = T} (Err t) fault After in subst P (sym h) e

pub judged_memory : {T : Type 0} (r : Result T Stop) (fault : Option Kind) (After : Type 0)
    → IsErrAnd r (λ (e : Stop). e ≡ stop.Memory) → Judges r fault After
judged_memory (Ok x) fault After h = absurd h
judged_memory {T} (Err s) fault After h =
    let P : Stop → Type 0 = λ t. Judges {T = T} (Err t) fault After in subst P (sym h) tt

-- what is judged by the words after a first word
pub judged_along : {T : Type 0} (r : Result T Stop) (n : ℕ) (read : List (ℕ × List (List ℕ))) (w : List ℕ)
    (ws : List (List ℕ)) (word : FirstWord) (p : Parts) {fault other : Option Kind} → other ≡ fault → w ≡ word_text word
    → Judges r fault (IsAfter ((n, word_text word ∷ ws) ∷ read) p) → Judges r other (IsAfter ((n, w ∷ ws) ∷ read) p)
judged_along r n read w ws word p e f j = rw (e, f) j

-- the words after a first one
abbrev pub words : Option (Bor (List ℕ)) → List (List ℕ)
words rest = words_after (option_map (λ (r : Bor (List ℕ)). r.now) rest)

pub reads_fault : {T : Type 0} (r : Result T Stop) (k : Kind) (read : List (ℕ × List (List ℕ))) (n : ℕ)
    (word : FirstWord) (ws : List (List ℕ)) (p : Parts) → IsErrAnd r (λ (e : Stop). e ≡ stop.Fault k)
    → written_fault (words_read read) word ws ≡ Some k
    → Judges r (written_fault (words_read read) word ws) (IsAfter ((n, word_text word ∷ ws) ∷ read) p)
reads_fault r k read n word ws p h e =
    judged_fault r k (written_fault (words_read read) word ws) (IsAfter ((n, word_text word ∷ ws) ∷ read) p) h e

pub not_both : (b : Bool) → b ≡ false → b ≡ true → ⊥
not_both b e f = let g : true ≡ false = sym f ∙ e in cc
