-- What went out over several writings.
use Rattle.std.proofs.Common.{◌≡◌, ℕ, suc, ◌+◌, List, [], ◌∷◌, ◌++◌, length, take, Option}
use Rattle.std.proofs.Common.{Result, Ok, Err}
use Rattle.std.proofs.Common.{OnOk, OnErr, refl, sym, ◌∙◌, ap, subst, arith, append-nil, length-append}
use Rattle.std.proofs.KnownBytes.{Appends-nil, Appends-trans}
use Rattle.std.proofs.lemmas.List.{take-append-le}
use Rattle.std.specs.Io.KnownBytes.{Appends}
use Rattle.cyg_io.specs.Counts.{RoseBy}
use Rattle.cyg_io.specs.Sink.{AppendsPart, TakesOnly, IsRestOf}
use Rattle.cyg_io.specs.PieceLaws.{TakesOnly-none, TakesOnly-trans, TakesOnly-weaker}
use Rattle.log_text.specs.Writes.{Told, WritesAll, WritesPart}

-- the first bytes of two lists that reach into the second
take_past : (xs ys : List ℕ) (n : ℕ) → take (length xs + n) (xs ++ ys) ≡ xs ++ take n ys
take_past [] ys n = let e : 0 + n ≡ n = omega arith in ap (λ (m : ℕ). take m ys) e
take_past (x ∷ xs) ys n =
    let e : suc (length xs) + n ≡ suc (length xs + n) = omega arith in
    ap (λ (m : ℕ). take m (x ∷ (xs ++ ys))) e ∙ ap (λ (l : List ℕ). x ∷ l) (take_past xs ys n)

-- where a part of a piece of the whole went out, behind what stands before it, a part of the whole did
bytes_part : (a b c : Option (List ℕ)) (xs ys zs whole : List ℕ) → whole ≡ xs ++ (ys ++ zs) → Appends a b xs
    → AppendsPart b c ys → AppendsPart a c whole
bytes_part a b c xs ys zs whole is before part = (
  length xs + part.0,
  omega (arith, part.1, ap length is, length-append xs (ys ++ zs), length-append ys zs),
  subst (λ (l : List ℕ). Appends a c l)
      (sym (ap (take (length xs + part.0)) is ∙ take_past xs (ys ++ zs) part.0
      ∙ ap (λ (l : List ℕ). xs ++ l) (take-append-le part.0 ys zs (omega (arith, part.1)))))
      (Appends-trans a b c xs (take part.0 ys) before part.2),
)

-- nothing is written
pub writes_none : (Q : List ℕ → Type 0) (text : List ℕ) (a : Told) → text ≡ [] → WritesAll Q text a a
writes_none Q text a is = record {
  bytes = subst (λ (l : List ℕ). Appends a.held a.held l) (sym is) (Appends-nil a.held);
  pieces = TakesOnly-none Q a.pieces;
  no_fault = refl;
}

-- one writing and then another
pub writes_both : (Q : List ℕ → Type 0) (xs ys whole : List ℕ) (a b c : Told) → whole ≡ xs ++ ys → WritesAll Q xs a b
    → WritesAll Q ys b c → WritesAll Q whole a c
writes_both Q xs ys whole a b c is first second = record {
  bytes = subst (λ (l : List ℕ). Appends a.held c.held l) (sym is)
      (Appends-trans a.held b.held c.held xs ys first.bytes second.bytes);
  pieces = TakesOnly-trans Q a.pieces b.pieces c.pieces first.pieces second.pieces;
  no_fault = second.no_fault ∙ first.no_fault;
}

-- one writing, and then one that had a fault
pub writes_part : (Q : List ℕ → Type 0) (xs ys zs whole : List ℕ) (a b c : Told) → whole ≡ xs ++ (ys ++ zs)
    → WritesAll Q xs a b → WritesPart Q ys b c → WritesPart Q whole a c
writes_part Q xs ys zs whole a b c is first second = record {
  bytes = bytes_part a.held b.held c.held xs ys zs whole is first.bytes second.bytes;
  pieces = TakesOnly-trans Q a.pieces b.pieces c.pieces first.pieces second.pieces;
  one_fault = subst (λ (n : ℕ). RoseBy 1 n c.faults) first.no_fault second.one_fault;
}

-- one writing, and then the last one
pub last_whole : {T E : Type 0} (r : Result T E) (Q : List ℕ → Type 0) (xs ys whole : List ℕ) (a b c : Told)
    → whole ≡ xs ++ ys → WritesAll Q xs a b → OnOk r (WritesAll Q ys b c) → OnOk r (WritesAll Q whole a c)
last_whole (Ok x) Q xs ys whole a b c is first second = writes_both Q xs ys whole a b c is first second
last_whole (Err e) Q xs ys whole a b c is first second = tt

pub last_part : {T E : Type 0} (r : Result T E) (Q : List ℕ → Type 0) (xs ys whole : List ℕ) (a b c : Told)
    → whole ≡ xs ++ ys → WritesAll Q xs a b → OnErr r (WritesPart Q ys b c) → OnErr r (WritesPart Q whole a c)
last_part (Ok x) Q xs ys whole a b c is first second = tt
last_part (Err e) Q xs ys whole a b c is first second =
    writes_part Q xs ys [] whole a b c (is ∙ ap (λ (l : List ℕ). xs ++ l) (sym (append-nil ys))) first second

pub on_err : {T E P : Type 0} (r : Result T E) → P → OnErr r P
on_err (Ok x) p = tt
on_err (Err e) p = p

pub ok_weaker : {T E P Q : Type 0} (r : Result T E) → (P → Q) → OnOk r P → OnOk r Q
ok_weaker (Ok x) f p = f p
ok_weaker (Err e) f p = tt

pub err_weaker : {T E P Q : Type 0} (r : Result T E) → (P → Q) → OnErr r P → OnErr r Q
err_weaker (Ok x) f p = tt
err_weaker (Err e) f p = f p

-- pieces with a property that follows
pub all_weaker : (Q R : List ℕ → Type 0) → ((piece : List ℕ) → Q piece → R piece) → (text : List ℕ) (a b : Told)
    → WritesAll Q text a b → WritesAll R text a b
all_weaker Q R f text a b h = record {
  bytes = h.bytes;
  pieces = TakesOnly-weaker Q R f a.pieces b.pieces h.pieces;
  no_fault = h.no_fault;
}

pub part_weaker : (Q R : List ℕ → Type 0) → ((piece : List ℕ) → Q piece → R piece) → (text : List ℕ) (a b : Told)
    → WritesPart Q text a b → WritesPart R text a b
part_weaker Q R f text a b h = record {
  bytes = h.bytes;
  pieces = TakesOnly-weaker Q R f a.pieces b.pieces h.pieces;
  one_fault = h.one_fault;
}

-- what the writing of one piece did
pub piece_whole : {T E : Type 0} (r : Result T E) (Q : List ℕ → Type 0) (piece text : List ℕ) (a b : Told)
    → piece ≡ text → ((rest : List ℕ) → IsRestOf text rest → Q rest) → OnOk r (Appends a.held b.held piece)
    → OnOk r (b.faults ≡ a.faults) → TakesOnly (IsRestOf piece) a.pieces b.pieces → OnOk r (WritesAll Q text a b)
piece_whole (Ok x) Q piece text a b is f whole no_fault pieces = record {
  bytes = subst (λ (l : List ℕ). Appends a.held b.held l) is whole;
  pieces = TakesOnly-weaker (IsRestOf piece) Q
      (λ rest h. f rest (subst (λ (l : List ℕ). IsRestOf l rest) is h)) a.pieces b.pieces pieces;
  no_fault = no_fault;
}
piece_whole (Err e) Q piece text a b is f whole no_fault pieces = tt

pub piece_part : {T E : Type 0} (r : Result T E) (Q : List ℕ → Type 0) (piece text : List ℕ) (a b : Told)
    → piece ≡ text → ((rest : List ℕ) → IsRestOf text rest → Q rest) → OnErr r (RoseBy 1 a.faults b.faults)
    → OnErr r (AppendsPart a.held b.held piece) → TakesOnly (IsRestOf piece) a.pieces b.pieces
    → OnErr r (WritesPart Q text a b)
piece_part (Ok x) Q piece text a b is f failed part pieces = tt
piece_part (Err e) Q piece text a b is f failed part pieces = record {
  bytes = subst (λ (l : List ℕ). AppendsPart a.held b.held l) is part;
  pieces = TakesOnly-weaker (IsRestOf piece) Q
      (λ rest h. f rest (subst (λ (l : List ℕ). IsRestOf l rest) is h)) a.pieces b.pieces pieces;
  one_fault = failed;
}
