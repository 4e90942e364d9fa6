-- A change is taken back by what stood there before, and so is a block by its changes.
use Rattle.std.proofs.Common.{◌≡◌, ℕ, zero, suc, ◌+◌, ◌≤◌, ◌<◌, List, [], ◌∷◌, ◌++◌, length, take, drop, refl, sym, ◌∙◌}
use Rattle.std.proofs.Common.{ap, arith, length-append}
use Rattle.std.proofs.lemmas.List.{length-take-le, take_at, drop_at, append_assoc, take-append-drop, drop-drop}
use Rattle.std.proofs.lemmas.List.{drop_all, drop_more, set-set, set-get_or}
use Rattle.std.proofs.lemmas.Option.{get_or_from_slice_get}
use Rattle.std.proofs.lemmas.List.Elements.{All-append, All-nil}
use Rattle.std.specs.Prelude.{◌-◌, slice_get, slice_set, slice_index, slice_index_or, Option, Some, None, IfSome, All}
use Rattle.std.specs.Option.{option_to_list}
use Rattle.std.specs.Int.{w32, to_le_bytes}
use Rattle.w32_base.specs.declared.own.Own.{Own}
use Rattle.w32_base.specs.declared.instr.Instr.{Instr}
use Rattle.vm_spec.specs.Image.{image_of, with_image, with_word, SameSizes}
use Rattle.proc_vm.specs.declared.kept.Change.{Change}
use Rattle.proc_vm.specs.declared.kept.Change.TheVariants as change
use Rattle.proc_vm.specs.Kept.{Kept, Contents, contents_of, put_back, put_all_back, with_contents, taken_back, IsChange}
use Rattle.proc_vm.specs.Kept.{IsWithin, Fits}
use Rattle.proc_vm.proofs.BlockLemmas.{IsDone, IsDone-none}

pub byte_back : (xs : List ℕ) (i b : ℕ) → slice_set (slice_set xs i b) i (slice_index xs i) ≡ xs
byte_back xs i b = set-set xs i b (slice_index xs i) ∙ set-get_or xs i 0

pub word_back : (xs : List ℕ) (place number : ℕ) → place + 4 ≤ length xs →
    take place (with_word xs place number) ++ take 4 (drop place xs) ++
    drop (place + 4) (with_word xs place number) ≡ xs
unfolding with_word
word_back xs place number h =
    let bytes : List ℕ = to_le_bytes w32 number in
    let rest : List ℕ = drop (place + 4) xs in
    let front : length (take place xs) ≡ place = length-take-le place xs (omega arith) in
    let long : length (take place xs ++ bytes) ≡ place + 4 =
    omega (arith, front, length-append (take place xs) bytes) in
    let first : take place (take place xs ++ bytes ++ rest) ≡ take place xs =
    ap (λ ys. take place ys) (append_assoc (take place xs) bytes rest) ∙
    take_at (take place xs) (bytes ++ rest) place front in
    let last : drop (place + 4) (take place xs ++ bytes ++ rest) ≡ rest =
    drop_at (take place xs ++ bytes) rest (place + 4) long in
    ap (λ ys. ys ++ take 4 (drop place xs) ++ drop (place + 4) (take place xs ++ bytes ++ rest)) first
    ∙ ap (λ ys. take place xs ++ take 4 (drop place xs) ++ ys) (last ∙ sym (drop-drop 4 place xs))
    ∙ append_assoc (take place xs) (take 4 (drop place xs)) (drop 4 (drop place xs))
    ∙ ap (λ ys. take place xs ++ ys) (take-append-drop 4 (drop place xs))
    ∙ take-append-drop place xs

-- one change more at the end
pub put_all_back-append : (changes : List Change) (c : Option Change) (new old : Contents) → IsChange old new c →
    put_all_back (changes ++ option_to_list c) new ≡ put_all_back changes old
put_all_back-append [] None new old h = h
put_all_back-append [] (Some c) new old h = h
put_all_back-append (d ∷ changes) c new old h = ap (put_back d) (put_all_back-append changes c new old h)

-- a place stays in its region where the sizes stay
within_stays : (old new : Contents) (c : Change) → length new.heap ≡ length old.heap
    → length new.stack ≡ length old.stack → IsWithin old c → IsWithin new c
within_stays old new (change.HeapByte place byte) heap stack h = omega arith
within_stays old new (change.StackBytes place bytes) heap stack h = omega arith

all_stay : (old new : Contents) (changes : List Change) → length new.heap ≡ length old.heap
    → length new.stack ≡ length old.stack →
    All (IsWithin old) changes → All (IsWithin new) changes
all_stay old new changes heap stack h = λ k d l. within_stays old new (slice_index_or changes k d) heap stack (h k d l)

one_within : (k : Contents) (c : Change) → IsWithin k c → All (IsWithin k) (c ∷ [])
one_within k c h zero d l = h
one_within k c h (suc n) d l = absurd (omega arith)

maybe_stays : (old new : Contents) (c : Option Change) → length new.heap ≡ length old.heap
    → length new.stack ≡ length old.stack →
    IfSome c (IsWithin old) → All (IsWithin new) (option_to_list c)
maybe_stays old new None heap stack h = All-nil (IsWithin new)
maybe_stays old new (Some c) heap stack h = one_within new c (within_stays old new c heap stack h)

length-maybe : (c : Option Change) → length (option_to_list c) ≤ 1
length-maybe None = omega arith
length-maybe (Some c) = omega arith

-- after n local instructions, with what they changed kept
pub record IsKept (code : List Instr) (old now : Own) (kept : Kept) (n : ℕ) : Type 0 where
  pub done : IsDone code old now n
  pub back : taken_back kept (image_of now) ≡ image_of old
  pub dat : length kept.dat ≡ 64
  pub few : length kept.changes ≤ n
  pub places : All (IsWithin (contents_of (image_of now))) kept.changes

pub IsKept-none : (code : List Instr) (old : Own) (kept : Kept) → length old.dat ≡ 64
    → kept ≡ record { dat = old.dat; changes = [] } →
    IsKept code old old kept 0
IsKept-none code old kept h is = rw is record {
  done = IsDone-none code old h;
  back = refl;
  dat = h;
  few = omega arith;
  places = All-nil (IsWithin (contents_of (image_of old)));
}

pub IsKept-more : (code : List Instr) (old now new : Own) (kept next : Kept) (c : Option Change) (n : ℕ) →
    IsKept code old now kept n → IsDone code old new (n + 1) → SameSizes (image_of now) (image_of new) →
    next ≡ record kept { changes = kept.changes ++ option_to_list c } →
    IfSome c (IsWithin (contents_of (image_of now)))
    → IsChange (contents_of (image_of now)) (contents_of (image_of new)) c →
    IsKept code old new next (n + 1)
IsKept-more code old now new kept next c n h done sizes is within change =
    let older : Contents = contents_of (image_of now) in
    let newer : Contents = contents_of (image_of new) in
    rw is record {
      done = done;
      back = ap (with_contents kept.dat) (put_all_back-append kept.changes c newer older change) ∙ h.back;
      dat = h.dat;
      few = omega (arith, h.few, length-append kept.changes (option_to_list c), length-maybe c);
      places = All-append (IsWithin newer) kept.changes (option_to_list c)
          (all_stay older newer kept.changes sizes.heap sizes.stack h.places)
          (maybe_stays older newer c sizes.heap sizes.stack within);
    }

-- so the block can be taken back
pub IsKept-fits : (code : List Instr) (old now : Own) (kept : Kept) (n : ℕ) → IsKept code old now kept n → n ≤ 256
    → Fits kept (image_of now)
IsKept-fits code old now kept n h most = record { dat = h.dat; most = omega (arith, h.few); places = h.places }

pub IsKept-back : (code : List Instr) (old now : Own) (kept : Kept) (n : ℕ) → IsKept code old now kept n →
    with_image now (taken_back kept (image_of now)) ≡ old
IsKept-back code old now kept n h =
    ap (with_image now) h.back ∙ ap (λ (o : Own). with_image o (image_of old)) h.done.value

-- after the last n changes are taken back
pub record IsPutBack (kept : Kept) (old now : Own) (n : ℕ) : Type 0 where
  pub value : now ≡ with_image old
      (with_contents old.dat (put_all_back (drop (length kept.changes - n) kept.changes) (contents_of (image_of old))))
  pub sizes : SameSizes (image_of old) (image_of now)

pub IsPutBack-none : (kept : Kept) (old : Own) → IsPutBack kept old old 0
IsPutBack-none kept old =
    let none : drop (length kept.changes - 0) kept.changes ≡ [] =
    drop_all (length kept.changes - 0) kept.changes (omega arith) in
    record {
      value = rw none refl;
      sizes = record { dat = refl; heap = refl; stack = refl };
    }

pub IsPutBack-more : (kept : Kept) (old now new : Own) (c : Change) (n : ℕ) → IsPutBack kept old now n
    → n < length kept.changes →
    slice_get kept.changes (length kept.changes - 1 - n) ≡ Some c →
    new ≡ with_image now (with_contents now.dat (put_back c (contents_of (image_of now))))
    → SameSizes (image_of now) (image_of new) →
    IsPutBack kept old new (n + 1)
IsPutBack-more kept old now new c n h l at is sizes =
    let place = length kept.changes - 1 - n in
    let next : place + 1 ≡ length kept.changes - n = omega arith in
    let this : place ≡ length kept.changes - (n + 1) = omega arith in
    let split : drop place kept.changes ≡ c ∷ drop (length kept.changes - n) kept.changes =
    drop_more kept.changes place c (omega arith)
    ∙ ap (λ d. d ∷ drop (place + 1) kept.changes) (get_or_from_slice_get kept.changes place c c at)
    ∙ ap (λ k. c ∷ drop k kept.changes) next
    in
    let after : Contents = put_all_back (drop (length kept.changes - n) kept.changes) (contents_of (image_of old)) in
    record {
      value =
          rw (← this, split) (is ∙
          ap (λ (o : Own). with_image o (with_contents o.dat (put_back c (contents_of (image_of o))))) h.value);
      sizes =
          record {
            dat = sizes.dat ∙ h.sizes.dat;
            heap = sizes.heap ∙ h.sizes.heap;
            stack = sizes.stack ∙
                h.sizes.stack;
          };
    }
