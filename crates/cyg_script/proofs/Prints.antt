-- Lines that are printed one after the other.
use Rattle.std.proofs.Common.{◌≡◌, ℕ, zero, suc, ◌+◌, ◌<◌, ◌≤◌, List, [], ◌∷◌, ◌++◌, length, map, take, get_or, refl}
use Rattle.std.proofs.Common.{sym, ap, ◌∙◌, append_assoc, arith}
use Rattle.std.specs.Prelude.{flat_map, slice_get, Some, None, Result, Ok, Err, OnOk, codes}
use Rattle.std.specs.Fmt.{decimal}
use Rattle.w32_base.specs.declared.setup.Limits.{Limits}
use Rattle.w32_base.specs.declared.setup.Module.{Module}
use Rattle.w32_base.specs.declared.setup.Program.{Program}
use Rattle.script_spec.specs.declared.script.OccupiedPage.{OccupiedPage}
use Rattle.script_spec.specs.declared.script.ScheduleLine.{ScheduleLine}
use Rattle.script_spec.specs.declared.script.Script.{Script}
use Rattle.std.proofs.lemmas.Option.{same_Some}
use Rattle.std.proofs.lemmas.List.{append-nil}
use Rattle.script_spec.specs.InstrText.{instr_words}
use Rattle.script_spec.specs.Print.{line_text, words_text, limits_words, module_words, occupied_words, program_words}
use Rattle.script_spec.specs.Print.{program_lines}
use Rattle.script_spec.specs.Print.{programs_lines, schedule_words, print_of}

one_more : {X : Type 0} (f : X → List (List ℕ)) (xs : List X) (i : ℕ) (d : X) → i < length xs
    → words_text (map f (take (suc i) xs)) ≡ words_text (map f (take i xs)) ++ line_text (f (get_or xs i d))
one_more f [] i d lt = absurd (omega arith)
one_more f (x ∷ xs) zero d lt = append-nil (line_text (f x))
one_more f (x ∷ xs) (suc i) d lt =
    ap (λ (t : List ℕ). line_text (f x) ++ t) (one_more f xs i d (omega arith))
    ∙ sym (append_assoc (line_text (f x)) (words_text (map f (take i xs))) (line_text (f (get_or xs i d))))

-- a line more
pub more_lines : {X : Type 0} (f : X → List (List ℕ)) (xs : List X) (i : ℕ) (d : X) (first before after : List ℕ)
    → i < length xs
    → before ≡ first ++ words_text (map f (take i xs)) → after ≡ before ++ line_text (f (get_or xs i d))
    → after ≡ first ++ words_text (map f (take (i + 1) xs))
more_lines f xs i d first before after lt e h =
    let k : i + 1 ≡ suc i = omega arith in
    h ∙ ap (λ (t : List ℕ). t ++ line_text (f (get_or xs i d))) e
    ∙ append_assoc first (words_text (map f (take i xs))) (line_text (f (get_or xs i d)))
    ∙ ap (λ (t : List ℕ). first ++ t) (sym (one_more f xs i d lt))
    ∙ ap (λ (n : ℕ). first ++ words_text (map f (take n xs))) (sym k)

one_more_at : {X : Type 0} (f : X → List (List ℕ)) (xs : List X) (i : ℕ) (x : X) → slice_get xs i ≡ Some x
    → words_text (map f (take (suc i) xs)) ≡ words_text (map f (take i xs)) ++ line_text (f x)
one_more_at f [] i x e = absurd cc
one_more_at f (y ∷ ys) zero x e = append-nil (line_text (f y)) ∙ ap (λ z. line_text (f z)) (same_Some y x e)
one_more_at f (y ∷ ys) (suc i) x e =
    ap (λ (t : List ℕ). line_text (f y) ++ t) (one_more_at f ys i x e)
    ∙ sym (append_assoc (line_text (f y)) (words_text (map f (take i ys))) (line_text (f x)))

-- a line more, of the element that was found at a place
pub more_lines_at : {X : Type 0} (f : X → List (List ℕ)) (xs : List X) (i : ℕ) (x : X) (first before after : List ℕ)
    → slice_get xs i ≡ Some x
    → before ≡ first ++ words_text (map f (take i xs)) → after ≡ before ++ line_text (f x)
    → after ≡ first ++ words_text (map f (take (i + 1) xs))
more_lines_at f xs i x first before after g e h =
    let k : i + 1 ≡ suc i = omega arith in
    h ∙ ap (λ (t : List ℕ). t ++ line_text (f x)) e ∙ append_assoc first (words_text (map f (take i xs)))
    (line_text (f x))
    ∙ ap (λ (t : List ℕ). first ++ t) (sym (one_more_at f xs i x g))
    ∙ ap (λ (n : ℕ). first ++ words_text (map f (take n xs))) (sym k)

-- no element is found past the end alone
pub past_end : {X : Type 0} (xs : List X) (i : ℕ) → slice_get xs i ≡ None → length xs ≤ i
past_end [] i e = omega arith
past_end (x ∷ xs) zero e = absurd cc
past_end (x ∷ xs) (suc i) e = let h : length xs ≤ i = past_end xs i e in omega (arith, h)

-- ---- texts that are joined

-- what is added after something that was added
pub added_back : (before after x rest end : List ℕ) → after ≡ before ++ x → end ≡ after ++ rest → end ≡ before
    ++ (x ++ rest)
added_back before after x rest end h e = e ∙ ap (λ (t : List ℕ). t ++ rest) h ∙ append_assoc before x rest

pub words_append : (a b : List (List (List ℕ))) → words_text (a ++ b) ≡ words_text a ++ words_text b
words_append [] b = refl
words_append (ws ∷ a) b =
    ap (λ (t : List ℕ). line_text ws ++ t) (words_append a b)
    ∙ sym (append_assoc (line_text ws) (words_text a) (words_text b))

pub on_ok : {T E : Type 0} (r : Result T E) (P Q : Type 0) → (P → Q) → OnOk r P → OnOk r Q
on_ok (Ok x) P Q f h = f h
on_ok (Err e) P Q f h = tt

number_line : (word before after : List ℕ) (n m : ℕ) → n ≡ m → after ≡ before ++ line_text (word ∷ decimal n ∷ [])
    → after ≡ before ++ line_text (word ∷ decimal m ∷ [])
number_line word before after n m e h = h ∙ ap (λ (k : ℕ). before ++ line_text (word ∷ decimal k ∷ [])) e

limits_joined : (l : Limits) (start a b c d : List ℕ) (m n k : ℕ) → a ≡ start ++ codes "cygscript 1\n"
    → m ≡ l.slots → b ≡ a ++ line_text (codes "slots" ∷ decimal m ∷ [])
    → n ≡ l.rows → c ≡ b ++ line_text (codes "rows" ∷ decimal n ∷ [])
    → k ≡ l.budget → d ≡ c ++ line_text (codes "budget" ∷ decimal k ∷ [])
    → d ≡ start ++ words_text (limits_words l)
limits_joined l start a b c d m n k ha em hb en hc ek hd =
    let budget : List ℕ = line_text (codes "budget" ∷ decimal l.budget ∷ []) in
    let rows : List ℕ = line_text (codes "rows" ∷ decimal l.rows ∷ []) in
    let slots : List ℕ = line_text (codes "slots" ∷ decimal l.slots ∷ []) in
    let last : d ≡ c ++ (budget ++ []) =
    number_line (codes "budget") c d k l.budget ek hd ∙ ap (λ (t : List ℕ). c ++ t) (sym (append-nil budget)) in
    let third : d ≡ b ++ (rows ++ (budget ++ [])) =
    added_back b c rows (budget ++ []) d (number_line (codes "rows") b c n l.rows en hc) last in
    let second : d ≡ a ++ (slots ++ (rows ++ (budget ++ []))) =
    added_back a b slots (rows ++ (budget ++ [])) d (number_line (codes "slots") a b m l.slots em hb) third in
    added_back start a (codes "cygscript 1\n") (slots ++ (rows ++ (budget ++ []))) d ha second

-- the lines of the limits
pub limits_done : {T E : Type 0} (r : Result T E) (l : Limits) (start a b c d : List ℕ) (m n k : ℕ) → a ≡ start
    ++ codes "cygscript 1\n"
    → m ≡ l.slots → b ≡ a ++ line_text (codes "slots" ∷ decimal m ∷ [])
    → n ≡ l.rows → c ≡ b ++ line_text (codes "rows" ∷ decimal n ∷ [])
    → k ≡ l.budget → OnOk r (d ≡ c ++ line_text (codes "budget" ∷ decimal k ∷ []))
    → OnOk r (d ≡ start ++ words_text (limits_words l))
limits_done r l start a b c d m n k ha em hb en hc ek hd =
    on_ok r (d ≡ c ++ line_text (codes "budget" ∷ decimal k ∷ [])) (d ≡ start ++ words_text (limits_words l))
    (λ h. limits_joined l start a b c d m n k ha em hb en hc ek h) hd

-- ---- blocks of lines

one_more_block : {X : Type 0} (f : X → List (List (List ℕ))) (xs : List X) (i : ℕ) (d : X) → i < length xs
    → words_text (flat_map f (take (suc i) xs)) ≡ words_text (flat_map f (take i xs)) ++ words_text (f (get_or xs i d))
one_more_block f [] i d lt = absurd (omega arith)
one_more_block f (x ∷ xs) zero d lt = ap words_text (append-nil (f x))
one_more_block f (x ∷ xs) (suc i) d lt =
    let less : i < length xs = omega arith in
    words_append (f x) (flat_map f (take (suc i) xs))
    ∙ ap (λ (t : List ℕ). words_text (f x) ++ t) (one_more_block f xs i d less)
    ∙ sym (append_assoc (words_text (f x)) (words_text (flat_map f (take i xs))) (words_text (f (get_or xs i d))))
    ∙ ap (λ (t : List ℕ). t ++ words_text (f (get_or xs i d))) (sym (words_append (f x) (flat_map f (take i xs))))

-- a block more
pub more_blocks : {X : Type 0} (f : X → List (List (List ℕ))) (xs : List X) (i : ℕ) (x : X)
    (first before after : List ℕ)
    → i < length xs → x ≡ get_or xs i x → before ≡ first ++ words_text (flat_map f (take i xs)) → after ≡ before
    ++ words_text (f x)
    → after ≡ first ++ words_text (flat_map f (take (i + 1) xs))
more_blocks f xs i x first before after lt is e h =
    let k : i + 1 ≡ suc i = omega arith in
    h ∙ ap (λ (t : List ℕ). t ++ words_text (f x)) e ∙ append_assoc first (words_text (flat_map f (take i xs)))
    (words_text (f x))
    ∙ ap (λ z. first ++ (words_text (flat_map f (take i xs)) ++ words_text (f z))) is
    ∙ ap (λ (t : List ℕ). first ++ t) (sym (one_more_block f xs i x lt))
    ∙ ap (λ (n : ℕ). first ++ words_text (flat_map f (take n xs))) (sym k)

-- ---- a program, and the whole script

program_joined : (p : Program) (start a b name : List ℕ) (m n : ℕ) → name ≡ p.name → m ≡ p.heap → n ≡ p.stack
    → a ≡ start ++ line_text (codes "program" ∷ name ∷ codes "heap" ∷ decimal m ∷ codes "stack" ∷ decimal n ∷ [])
    → b ≡ a ++ words_text (map instr_words p.code) → b ≡ start ++ words_text (program_lines p)
program_joined p start a b name m n ename em en ha hb =
    let own : a ≡ start ++ line_text (program_words p) =
    ha ∙ ap (λ (t : List ℕ). start ++ line_text (codes "program" ∷ t ∷ codes "heap" ∷ decimal m ∷ codes "stack" ∷
    decimal n ∷ [])) ename
    ∙ ap (λ (k : ℕ). start ++ line_text (codes "program" ∷ p.name ∷ codes "heap" ∷ decimal k ∷ codes "stack" ∷
    decimal n ∷ [])) em
    ∙ ap (λ (k : ℕ). start ++ line_text (codes "program" ∷ p.name ∷ codes "heap" ∷ decimal p.heap ∷ codes "stack" ∷
    decimal k ∷ [])) en in
    added_back start a (line_text (program_words p)) (words_text (map instr_words p.code)) b own hb

pub program_done : {T E : Type 0} (r : Result T E) (p : Program) (start a b name : List ℕ) (m n : ℕ) → name ≡ p.name
    → m ≡ p.heap → n ≡ p.stack
    → a ≡ start ++ line_text (codes "program" ∷ name ∷ codes "heap" ∷ decimal m ∷ codes "stack" ∷ decimal n ∷ [])
    → OnOk r (b ≡ a ++ words_text (map instr_words p.code)) → OnOk r (b ≡ start ++ words_text (program_lines p))
program_done r p start a b name m n ename em en ha hb =
    on_ok r (b ≡ a ++ words_text (map instr_words p.code)) (b ≡ start ++ words_text (program_lines p))
    (λ h. program_joined p start a b name m n ename em en ha h) hb

-- five blocks of lines, the fourth of which is followed by one line
five_blocks : (a b c d f : List (List (List ℕ))) (e : List (List ℕ))
    → words_text (a ++ (b ++ (c ++ (d ++ e ∷ f))))
    ≡ words_text a ++ (words_text b ++ (words_text c ++ (words_text d ++ (line_text e ++ words_text f))))
five_blocks a b c d f e =
    words_append a (b ++ (c ++ (d ++ e ∷ f)))
    ∙ ap (λ (t : List ℕ). words_text a ++ t) (
    words_append b (c ++ (d ++ e ∷ f)) ∙ ap (λ (t : List ℕ). words_text b ++ t) (
    words_append c (d ++ e ∷ f) ∙ ap (λ (t : List ℕ). words_text c ++ t) (words_append d (e ∷ f))))

-- blocks that are added one after the other to nothing
blocks_done : (a b c d f : List (List (List ℕ))) (e : List (List ℕ)) (o s t u v w x : List ℕ) → o ≡ []
    → s ≡ o ++ words_text a → t ≡ s ++ words_text b → u ≡ t ++ words_text c → v ≡ u ++ words_text d → w ≡ v
    ++ line_text e
    → x ≡ w ++ words_text f → x ≡ words_text (a ++ (b ++ (c ++ (d ++ e ∷ f))))
blocks_done a b c d f e o s t u v w x ho hs ht hu hv hw hx =
    let ef : List ℕ = line_text e ++ words_text f in
    let from_v : x ≡ v ++ ef = added_back v w (line_text e) (words_text f) x hw hx in
    let from_u : x ≡ u ++ (words_text d ++ ef) = added_back u v (words_text d) ef x hv from_v in
    let from_t : x ≡ t ++ (words_text c ++ (words_text d ++ ef)) = added_back t u (words_text c)
    (words_text d ++ ef) x hu from_u in
    let from_s : x ≡ s ++ (words_text b ++ (words_text c ++ (words_text d ++ ef))) =
    added_back s t (words_text b) (words_text c ++ (words_text d ++ ef)) x ht from_t in
    let from_o : x ≡ o ++ (words_text a ++ (words_text b ++ (words_text c ++ (words_text d ++ ef)))) =
    added_back o s (words_text a) (words_text b ++ (words_text c ++ (words_text d ++ ef))) x hs from_s in
    from_o ∙ ap (λ (n : List ℕ). n ++ (words_text a ++ (words_text b ++ (words_text c ++ (words_text d ++ ef))))) ho
    ∙ sym (five_blocks a b c d f e)

pub script_done : (script : Script) (modules : List Module) (pages : List OccupiedPage) (programs : List Program)
    (lines : List ScheduleLine)
    (o s t u v w x : List ℕ) → modules ≡ script.setup.modules → pages ≡ script.occupied → programs
    ≡ script.setup.programs
    → lines ≡ script.directives → o ≡ [] → s ≡ o ++ words_text (limits_words script.setup.limits)
    → t ≡ s ++ words_text (map module_words modules) → u ≡ t ++ words_text (map occupied_words pages)
    → v ≡ u ++ words_text (programs_lines programs) → w ≡ v ++ line_text (codes "schedule" ∷ [])
    → x ≡ w ++ words_text (map schedule_words lines) → x ≡ print_of script
script_done script modules pages programs lines o s t u v w x em ep eg el ho hs ht hu hv hw hx =
    blocks_done (limits_words script.setup.limits) (map module_words script.setup.modules)
    (map occupied_words script.occupied)
    (programs_lines script.setup.programs) (map schedule_words script.directives) (codes "schedule" ∷ []) o s t u v
    w x ho hs
    (ht ∙ ap (λ (ms : List Module). s ++ words_text (map module_words ms)) em)
    (hu ∙ ap (λ (os : List OccupiedPage). t ++ words_text (map occupied_words os)) ep)
    (hv ∙ ap (λ (ps : List Program). u ++ words_text (programs_lines ps)) eg)
    hw (hx ∙ ap (λ (ls : List ScheduleLine). w ++ words_text (map schedule_words ls)) el)
