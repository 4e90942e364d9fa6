-- The array of a short list is given back by the bytes that it shows.
use Rattle.std.specs.Prelude.{◌≡◌, ℕ, List, ◌++◌, length, take}
use Rattle.std.proofs.Common.{sym, ◌∙◌, ap, arith}
use Rattle.std.proofs.lemmas.List.{take-append-drop, length-take-le}
use Rattle.w32_base.specs.Short.{shown, IsShort, filled}
use Rattle.w32_base.specs.declared.lists.ShortBytes.TheInside.{Inside}

pub length-shown : (n len : ℕ) (bytes : List ℕ) → IsShort n len bytes → length (shown len bytes) ≡ len
length-shown n len bytes h = length-take-le len bytes (omega (arith, h.room, h.within))

pub filled-shown : (n len : ℕ) (bytes : List ℕ) → IsShort n len bytes → filled n (shown len bytes) ≡ bytes
filled-shown n len bytes h =
    rw (length-shown n len bytes h) (ap (λ tail. take len bytes ++ tail) (sym h.zeros) ∙ take-append-drop len bytes)

pub inverse_is : (n : ℕ) (a : Inside n) → IsShort n a.len a.bytes →
    (let b : Inside n = record { bytes = filled n (shown a.len a.bytes); len = length (shown a.len a.bytes) } in b) ≡ a
inverse_is n a h =
    let e : filled n (shown a.len a.bytes) ≡ a.bytes = filled-shown n a.len a.bytes h in
    let l : length (shown a.len a.bytes) ≡ a.len = length-shown n a.len a.bytes h in
    let with_bytes : List ℕ → Inside n = λ x. record { bytes = x; len = length (shown a.len a.bytes) } in
    let with_len : ℕ → Inside n = λ x. record { bytes = a.bytes; len = x } in
    ap with_bytes e ∙ ap with_len l
