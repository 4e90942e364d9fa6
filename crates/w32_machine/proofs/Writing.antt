-- Reading and writing the memory of the process in a slot.
use Rattle.std.proofs.Common.{◌≡◌, ◌∙◌, ◌↔◌, ℕ, Bool, true, false, List, length, Some}
use Rattle.std.proofs.Common.{IsSome}
use Rattle.std.proofs.Common.{Result, Ok, Err, is_ok, OnOk, OnErr, refl, sym, ap, subst}
use Rattle.std.specs.Result.{IsErr}
use Rattle.w32_base.specs.Part.{KeepsLengths}
use Rattle.w32_base.specs.declared.call.Region.{Region}
use Rattle.w32_base.specs.declared.call.Region.TheVariants.{Dat, Heap, Stack, Cyg, Scratch}
use Rattle.w32_base.specs.declared.own.Own.{Own}
use Rattle.win32_spec.specs.Lookup.{number_in, memory_by, with_own}
use Rattle.win32_spec.specs.MemoryCalls.{has_range}
use Rattle.win32_spec.specs.MemoryEffects.{length-written, inside}
use Rattle.win32_spec.specs.Regions.{region_of, with_region, range_of, written}
use Rattle.w32_process.specs.Table.{Table, place_at, number_at}
use Rattle.w32_process.specs.Table as table
use Rattle.w32_machine.specs.Copies.{Reads, ReadsAt, Writes, WritesAt}
use Rattle.w32_machine.specs.declared.machine.Machine.TheInside.{Inside}
use Rattle.w32_machine.specs.Running.{Running}
use Rattle.w32_machine.specs.View.{view_of}
use Rattle.w32_machine.specs.Sound.{IsSound}
use Rattle.w32_machine.proofs.Owned.{own-same, owned-is, owned-sound}
use Rattle.w32_machine.proofs.Processes.{numbers}
use Rattle.w32_machine.proofs.Slots.{memory_at}
use Rattle.w32_machine.proofs.Copying.{at-some, the-number}

-- bytes that are written into a region leave the lengths
written-keeps : (own : Own) (region : Region) (place : ℕ) (bytes : List ℕ)
    → has_range own region place (length bytes) ≡ true
    → KeepsLengths own (with_region own region (written (region_of own region) place bytes))
written-keeps own Dat place bytes e = record {
  dat = length-written own.dat place bytes (inside (length own.dat) place (length bytes) e);
  heap = refl;
  stack = refl;
  cyg = refl;
  scratch = refl;
}
written-keeps own Heap place bytes e = record {
  heap = length-written own.heap place bytes (inside (length own.heap) place (length bytes) e);
  dat = refl;
  stack = refl;
  cyg = refl;
  scratch = refl;
}
written-keeps own Stack place bytes e = record {
  stack = length-written own.stack place bytes (inside (length own.stack) place (length bytes) e);
  dat = refl;
  heap = refl;
  cyg = refl;
  scratch = refl;
}
written-keeps own Cyg place bytes e = record {
  cyg = length-written own.cyg place bytes (inside (length own.cyg) place (length bytes) e);
  dat = refl;
  heap = refl;
  stack = refl;
  scratch = refl;
}
written-keeps own Scratch place bytes e = record {
  scratch = length-written own.scratch place bytes (inside (length own.scratch) place (length bytes) e);
  dat = refl;
  heap = refl;
  stack = refl;
  cyg = refl;
}

not-false : (x : Bool) → (x ≡ false → false ≡ true) → x ≡ true
not-false true f = refl
not-false false f = f refl

-- a fact by whether a range was inside
pub by-range : {A E : Type 0} (r : Result A E) (x : Bool) (P Q : Type 0) → IsErr r ↔ (x ≡ false) → OnOk r P → OnErr r Q
    → (R : Bool → Type 0) → (x ≡ true → P → R true) → (x ≡ false → Q → R false) → R (is_ok r)
by-range (Ok a) x P Q told p q R lies out = lies (not-false x told.1) p
by-range (Err e) x P Q told p q R lies out = out (told.0 refl) q

-- The bytes of the process in a slot.
module _ (m : Inside) (sound : IsSound m) (now : Running) (shows : view_of m ≡ now) (slot : ℕ) where
  pub slot-there : IsSome (number_in now.win32 slot) → IsSome (number_at m.processes.slots slot)
  slot-there some = subst IsSome (sym (numbers m sound now shows slot)) some

  module _ (v : ℕ) (lives : number_in now.win32 slot ≡ Some v) where
    stands : number_at m.processes.slots slot ≡ Some v
    stands = numbers m sound now shows slot ∙ lives

    pub memory-is : (place_at m.processes.slots slot).own ≡ memory_by now.win32 v
    memory-is = sym (memory_at m sound slot v stands) ∙ ap (λ (r : Running). memory_by r.win32 v) shows

    owned-now : (own : Own)
        → (view_of (record m { processes = table.with_own m.processes slot own })).win32 ≡ with_own now.win32 v own
    owned-now own =
        owned-is m sound slot v stands own ∙ ap (λ (r : Running). with_own r.win32 v own) shows

    sound-now : (own : Own) → KeepsLengths (place_at m.processes.slots slot).own own
        → IsSound (record m { processes = table.with_own m.processes slot own })
    sound-now own keeps = owned-sound m sound slot v stands own keeps

  same-own : (own : Own) → own ≡ (place_at m.processes.slots slot).own
      → record m { processes = table.with_own m.processes slot own } ≡ m
  same-own own e =
      ap (λ o. record m { processes = table.with_own m.processes slot o }) e
      ∙ ap (λ (t : Table). record m { processes = t }) (own-same m.processes slot)

  module _ (region : Region) (place : ℕ) (bytes : List ℕ) (old own : Own)
      (lent : old ≡ (place_at m.processes.slots slot).own) {A E : Type 0} (r : Result A E)
      (told : IsErr r ↔ (has_range old region place (length bytes) ≡ false))
      (done : OnOk r (own ≡ with_region old region (written (region_of old region) place bytes)))
      (stays : OnErr r (own ≡ old)) where
    abbrev new : Inside
    new = record m { processes = table.with_own m.processes slot own }

    pub write-sound : IsSome (number_in now.win32 slot) → IsSound new
    write-sound some =
        let at = the-number (number_in now.win32 slot) some in
        by-range r (has_range old region place (length bytes)) _ _ told done stays (λ b. IsSound new)
        (λ fits is. sound-now at.0 at.1 own
        (subst (λ o. KeepsLengths o own) lent
        (subst (KeepsLengths old) (sym is) (written-keeps old region place bytes fits))))
        (λ out is. subst IsSound (sym (same-own own (is ∙ lent))) sound)

    pub write-done : (b : Bool) → b ≡ is_ok r → WritesAt now.win32 slot region place bytes b (view_of new).win32
    write-done b e =
        at-some (number_in now.win32 slot) (λ v. Writes now.win32 v region place bytes b (view_of new).win32) (λ v
        lives.
        let memory : old ≡ memory_by now.win32 v = lent ∙ memory-is v lives in
        subst (λ k. Writes now.win32 v region place bytes k (view_of new).win32) (sym e)
        (by-range r (has_range old region place (length bytes)) _ _ told done stays
        (λ k. Writes now.win32 v region place bytes k (view_of new).win32)
        (λ fits is. (
          subst (λ o. has_range o region place (length bytes) ≡ true) memory fits,
          owned-now v lives own ∙ ap (with_own now.win32 v)
              (is ∙ ap (λ o. with_region o region (written (region_of o region) place bytes)) memory),
        ))
        (λ out is. (
          subst (λ o. has_range o region place (length bytes) ≡ false) memory out,
          ap (λ (k : Inside). (view_of k).win32) (same-own own (is ∙ lent)) ∙ ap (λ (q : Running). q.win32) shows,
        ))))

  -- what is read
  module _ (region : Region) (place : ℕ) (old read : List ℕ) (own : Own)
      (lent : own ≡ (place_at m.processes.slots slot).own) {A E : Type 0} (r : Result A E)
      (told : IsErr r ↔ (has_range own region place (length old) ≡ false))
      (done : OnOk r (read ≡ range_of (region_of own region) place (length old)))
      (stays : OnErr r (read ≡ old)) where
    pub read-done : (b : Bool) → b ≡ is_ok r → ReadsAt now.win32 slot region place old b read
    read-done b e =
        at-some (number_in now.win32 slot) (λ v. Reads (memory_by now.win32 v) region place old b read) (λ v lives.
        subst (λ o. Reads o region place old b read) (lent ∙ memory-is v lives)
        (subst (λ k. Reads own region place old k read) (sym e)
        (by-range r (has_range own region place (length old)) _ _ told done stays
        (λ k. Reads own region place old k read) (λ fits is. (fits, is)) (λ out is. out))))
