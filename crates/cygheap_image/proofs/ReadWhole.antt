-- A cygheap that is read field by field.
use Rattle.std.specs.Prelude.{◌≡◌, ℕ, Bool, List, Option}
use Rattle.std.proofs.Common.{refl, sym, ◌∙◌}
use Rattle.w32_base.specs.declared.instr.Action.{Action}
use Rattle.layer_spec.specs.HeapReads.{mask_in, saved_in, owed_in, child_count_in}
use Rattle.cygheap_image.specs.Fields.{fields_in}
use Rattle.cygheap_image.specs.FieldLaws.{child_count_told}
use Rattle.cygheap_image.specs.Shown.{shown, shown_children}

pub heap_shown : (bytes : List ℕ) (mask : ℕ) (saved : Option ℕ) (owed : ℕ) (actions : List Action) (bases : List ℕ)
    (count : ℕ) (children : List (ℕ × Bool))
    → mask ≡ mask_in bytes → saved ≡ saved_in bytes → owed ≡ owed_in bytes → actions ≡ (fields_in bytes).actions
    → bases ≡ (fields_in bytes).bases → count ≡ child_count_in bytes
    → children ≡ shown_children (fields_in bytes).children
    → record {
      mask = mask;
      saved = saved;
      owed = owed;
      actions = actions;
      bases = bases;
      count = count;
      children = children;
    } ≡ shown (fields_in bytes)
unfolding fields_in
heap_shown bytes mask saved owed actions bases count children m s o a b n c =
    rw (m, s, o, a, b, n ∙ sym (child_count_told bytes), c) refl
