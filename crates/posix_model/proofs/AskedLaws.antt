-- Laws of what is asked of all processes.
use Rattle.std.proofs.Common.{nat_lt, lt-ltb, ne_eqb, arith, zero, suc}
use Rattle.std.proofs.Common.{◌≡◌, ℕ, Bool, true, false, cond, ◌&&◌, ◌||◌, not, nat_eq, List, [], ◌∷◌, length, refl}
use Rattle.std.proofs.Common.{sym, ◌∙◌, ap}
use Rattle.std.specs.List.{list_any, list_all}
use Rattle.std.specs.Ordering.{nat_cmp}
use Rattle.std.specs.FinMap as map
use Rattle.std.specs.FinSet as set
use Rattle.posix_spec.specs.State.{Numbers, Record, PosixState, record_of}
use Rattle.posix_spec.specs.Records.{numbers_where}
use Rattle.posix_spec.specs.Waits.{has_looked_at_each}
use Rattle.posix_spec.specs.Groups.{has_no_parent_outside, is_orphaned}
use Rattle.posix_model.specs.Asked.{is_tied}
use Rattle.posix_model.specs.Scanned.{some_entry}
use Rattle.posix_model.specs.Table.{records_of}
use Rattle.posix_model.specs.declared.machine.Machine.{Machine}
use Rattle.posix_model.specs.Machine.{state_of}

opposite : (a b x y : Bool) → not x ≡ y → not ((a && not b) || x) ≡ ((not a || b) && y)
opposite true true x y e = e
opposite true false x y e = refl
opposite false b x y e = e

every_not : (s : PosixState) (g : ℕ) (es : List (ℕ × Record)) → not (list_any (λ e. is_tied s g e.0 e.1) es)
    ≡ list_all (λ e. not (nat_eq e.1.group g) || has_no_parent_outside g e.1.session (record_of s e.1.parent)) es
every_not s g [] = refl
every_not s g (e ∷ es) = opposite (nat_eq e.1.group g) (has_no_parent_outside g e.1.session (record_of s e.1.parent))
    _ _ (every_not s g es)

-- a group is orphaned where no member has a parent outside
pub orphaned_is : (m : Machine) (g : ℕ) → not (some_entry (is_tied (state_of m) g) (map.entries (records_of
    m.table))) ≡ is_orphaned (state_of m) g
orphaned_is m g = every_not (state_of m) g _

module _ (test : ℕ → Record → Bool) (f : ℕ → Bool) where
  unseen_step : (a b x : Bool) (y : Bool) → not x ≡ y → not ((a && not b) || x) ≡ cond a (b && y) y
  unseen_step true true x y e = e
  unseen_step true false x y e = refl
  unseen_step false b x y e = e

  split : (a : Bool) (n : ℕ) (ns : List ℕ) → cond a (f n && list_all f ns) (list_all f ns) ≡ list_all f (cond a (n ∷
      ns) ns)
  split true n ns = refl
  split false n ns = refl

  -- each that passes was seen where none is unseen
  pub each_seen : (es : List (ℕ × Record)) → not (some_entry (λ q r. test q r && not (f q)) es) ≡ list_all f
      (numbers_where test es)
  each_seen [] = refl
  each_seen (e ∷ es) = unseen_step (test e.0 e.1) (f e.0) _ _ (each_seen es) ∙ split (test e.0 e.1) e.0
      (numbers_where test es)

nonempty : (k : ℕ) → not (nat_eq k 0) ≡ nat_lt 0 k
nonempty zero = refl
nonempty (suc k) = ap not (ne_eqb (suc k) 0 (omega arith)) ∙ sym (lt-ltb 0 (suc k) (omega arith))

and_false : (b : Bool) → (b && false) ≡ false
and_false true = refl
and_false false = refl

-- without a look there are none that were looked at
pub none_looked_at : (ns : List ℕ) → has_looked_at_each set.empty ns ≡ false
none_looked_at [] = refl
none_looked_at (n ∷ ns) =
    ap (λ b. nat_lt 0 (length (n ∷ ns)) && (b && list_all (λ (q : ℕ). set.contains (set.empty {R = nat_cmp}) q) ns))
    (set.contains-empty nat_cmp n)
    ∙ and_false (nat_lt 0 (length (n ∷ ns)))

-- some child was looked at, and each
pub each_looked_at : (seen : Numbers) (ns : List ℕ) (none others : Bool) → none ≡ nat_eq (length ns) 0 → others ≡
    list_all (set.contains seen) ns →
    (not none && others) ≡ has_looked_at_each seen ns
each_looked_at seen ns none others e h =
    ap (λ b. not none && b) h ∙ ap (λ b. b && list_all (set.contains seen) ns) (ap not e ∙ nonempty (length ns))
