-- A slot that is found, and what a change of it is to the table.
use Rattle.std.proofs.Common.{◌≡◌, ◌⊎◌, ◌↔◌, inl, inr, ℕ, zero, suc, ◌+◌, ◌<◌, ◌++◌, List, [], ◌∷◌, length, get_or}
use Rattle.std.proofs.Common.{take, drop, replicate, Option, None, IsSome, refl, sym, ap, ◌∙◌, arith}
use Rattle.std.proofs.Common.{true≢false}
use Rattle.std.specs.Int.{w32, to_le_bytes}
use Rattle.std.proofs.lemmas.List.{get_or_default}
use Rattle.w32_base.specs.declared.own.Own.{Own}
use Rattle.w32_base.specs.declared.setup.Program.{Program}
use Rattle.vm_spec.specs.Image.{with_word}
use Rattle.win32_spec.specs.Making.{new_memory}
use Rattle.w32_process.specs.Places.{Place, empty_place}
use Rattle.w32_process.specs.Table.{Table, place_at, number_at, count_at, code_of, IsLive}
use Rattle.w32_process.specs.Sound.{IsSound}

number_within : (slots : List Place) (slot : ℕ) → IsSome (number_at slots slot) → slot < length slots
number_within [] slot some = absurd (true≢false (sym some))
number_within (p ∷ ps) zero some = omega arith
number_within (p ∷ ps) (suc slot) some = omega (arith, number_within ps slot some)

count_within : (slots : List Place) (slot thread : ℕ) → IsSome (count_at slots slot thread) → slot < length slots
count_within [] slot thread some = absurd (true≢false (sym some))
count_within (p ∷ ps) zero thread some = omega arith
count_within (p ∷ ps) (suc slot) thread some = omega (arith, count_within ps slot thread some)

-- a slot with a process is one of the table
pub within_at : (t : Table) (slots : List Place) (slot i : ℕ) → slots ≡ t.slots → i ≡ slot
    → IsSome (number_at t.slots slot) → i < length slots
within_at t slots slot i is at some = rw (is, at) (number_within t.slots slot some)

pub counted_at : (t : Table) (slots : List Place) (slot i thread : ℕ) → slots ≡ t.slots → i ≡ slot
    → IsSome (count_at t.slots slot thread) → i < length slots
counted_at t slots slot i thread is at some = rw (is, at) (count_within t.slots slot thread some)

-- what is found at a place is the slot
pub seat_is : (slots : List Place) (i : ℕ) (seat : Place) → i < length slots → seat ≡ get_or slots i seat
    → seat ≡ place_at slots i
seat_is slots i seat within found = found ∙ get_or_default slots i seat empty_place within

pub seat_number : (slots : List Place) (i : ℕ) (seat : Place) → i < length slots → seat ≡ get_or slots i seat
    → seat.number ≡ number_at slots i
seat_number slots i seat within found = ap (λ (p : Place). p.number) (seat_is slots i seat within found)

-- the exit code of a process is none exactly while it is alive
pub alive_is : (t : Table) (w : ℕ) (r : Option ℕ) → IsSound t → IsLive t w ⊎ IsSome (code_of t.kept w)
    → r ≡ code_of t.kept w → (r ≡ None) ↔ IsLive t w
alive_is t w r sound known is = (λ none. by_case none known, λ live. is ∙ sound.numbers.live live.0 w live.1)
  where
    by_case : r ≡ None → IsLive t w ⊎ IsSome (code_of t.kept w) → IsLive t w
    by_case none (inl live) = live
    by_case none (inr some) = absurd (true≢false (sym (rw (sym is ∙ none) at some)))

-- a new memory, region by region
pub memory_is : (number word heap_bytes stack_bytes : ℕ) (program : Program) (zeros dat heap stack cyg scratch : List
    ℕ) → word ≡ number → heap_bytes ≡ program.heap → stack_bytes ≡ program.stack → zeros ≡ replicate 64 0
    → dat ≡ take 40 zeros ++ to_le_bytes w32 word ++ drop (40 + 4) zeros → heap ≡ replicate heap_bytes 0
    → stack ≡ replicate stack_bytes 0 → cyg ≡ replicate 288 0 → scratch ≡ replicate 512 0
    → (let own : Own = record { dat = dat; heap = heap; stack = stack; cyg = cyg; scratch = scratch } in
    own ≡ new_memory number program)
unfolding new_memory with_word
memory_is number word heap_bytes stack_bytes program zeros dat heap stack cyg scratch w hb sb z d h s c x =
    rw (d, z, w, h, hb, s, sb, c, x) refl
