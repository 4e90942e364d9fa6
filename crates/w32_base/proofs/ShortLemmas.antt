-- A short list that gets one more byte stays one.
use Rattle.std.proofs.Common.{◌≡◌, ℕ, ◌+◌, ◌-◌, ◌<◌, List, length, drop, slice_set, sym, ◌∙◌, ap, arith, refl}
use Rattle.std.proofs.lemmas.List.{drop-replicate, drop-drop, drop-set-lt, length-set}
use Rattle.w32_base.specs.Short.{shown, IsShort}
use Rattle.w32_base.specs.ShortLaws.{length-shown}

-- the bytes past the new one are those past the old last, without their first
drop-more : (n len : ℕ) (bytes : List ℕ) → IsShort n len bytes → drop (len + 1) bytes ≡ drop 1 (drop len bytes)
drop-more n len bytes h = sym (drop-drop 1 len bytes)

pub IsShort-push : (n len i b : ℕ) (bytes : List ℕ) → i ≡ len → len < n → IsShort n len bytes
    → IsShort n (len + 1) (slice_set bytes i b)
IsShort-push n len i b bytes e room h = record {
  room = length-set bytes i b ∙ h.room;
  within = omega arith;
  zeros = let lower : i < len + 1 = omega arith in
      let less : n - len - 1 ≡ n - (len + 1) = omega arith in
      drop-set-lt (len + 1) bytes i b lower ∙ drop-more n len bytes h ∙ rw h.zeros (rw drop-replicate (rw less refl));
}

-- a short list with room shows fewer bytes than it has room for
pub less_than_room : (n len : ℕ) (bytes xs : List ℕ) → IsShort n len bytes → shown len bytes ≡ xs → length xs < n
    → len < n
less_than_room n len bytes xs h e room = omega (arith, length-shown n len bytes h, ap length e)
