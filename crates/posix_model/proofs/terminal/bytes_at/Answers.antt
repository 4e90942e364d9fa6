use Rattle.std.proofs.Common.{◌-◌, length, take, drop, ◌∙◌, ap, arith, length-drop}
use Rattle.std.proofs.lemmas.List.{take_min, drop_min, take_all}
use Rattle.posix_model.proofs.terminal.bytes_at.Goals as goal

pub returns : goal.returns
returns c =
    let bytes = c.args.bytes.now in
    let from = c.min.result in
    let rest = take (length bytes - from) (drop from bytes) in
    ap (λ k. take k rest) c.min-2.ensures
    ∙ take_min c.from.result rest
    ∙ ap (λ k. take k rest) c.from.ensures
    ∙ ap (take c.args.count) (take_all (length bytes - from) (drop from bytes) (omega (arith, length-drop from bytes))
    ∙ ap (λ k. drop k bytes) c.min.ensures ∙ drop_min c.args.place bytes)
