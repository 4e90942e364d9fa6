use Rattle.std.proofs.Common.{◌≡◌, ℕ, ◌<◌, length, take, Some, ◌∙◌, ap, sym, arith, length-take}
use Rattle.std.proofs.lemmas.List.{get_or-take}
use Rattle.std.proofs.lemmas.Option.{slice_get-get_or}
use Rattle.std.specs.Prelude.{slice_get, slice_index_or}
use Rattle.proc_vm.specs.Kept.{Kept}
use Rattle.proc_vm.specs.KeptInside.{kept_of}
use Rattle.proc_vm.specs.declared.kept.Undo.TheInside.{Inside}
use Rattle.proc_vm.specs.declared.kept.Change.{Change}
use Rattle.proc_vm.proofs.kept.Undo.change.Goals as goal

within : (u : Inside) (k : Kept) (i : ℕ) → kept_of u ≡ k → i < length k.changes → i < u.count
within u k i is h =
    let short : length (take u.count u.changes) ≡ length k.changes = ap (λ (k : Kept). length k.changes) is in
    omega (arith, short, length-take u.count u.changes)

at : (u : Inside) (k : Kept) (i : ℕ) (d : Change) → kept_of u ≡ k → i < length k.changes
    → slice_get k.changes i ≡ Some (slice_index_or u.changes i d)
at u k i d is h =
    slice_get-get_or k.changes i d h
    ∙ ap (λ (k : Kept). Some (slice_index_or k.changes i d)) (sym is)
    ∙ ap Some (get_or-take u.count u.changes i d (within u k i is h))

pub returns : goal.returns
returns c = at c.self.inside c.args.self.now c.args.i _ c.self.view_is c.requires.kept
