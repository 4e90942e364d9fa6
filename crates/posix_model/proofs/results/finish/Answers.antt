use Rattle.std.proofs.Common.{◌≡◌, ◌≤◌, ◌+◌, ◌%◌, ℕ, pos, Option, option_map, List, sym, ◌∙◌, ap, arith}
use Rattle.vm_spec.specs.Image.{image_of, with_image, with_result, with_word, place_of}
use Rattle.posix_model.proofs.ResultLemmas.{with_word-wrapped}
use Rattle.posix_model.proofs.results.finish.Goals as goal

pub returns-in-Some-clause-value : goal.returns-in-Some-clause-value
returns-in-Some-clause-value c =
    let own = c.args.own.now in
    let next = place_of (image_of own) in
    let fits : next + 1 ≤ 4294967296 = omega (arith, c.next_place-next.ensures, c.next_place-next.type_inv) in
    let moved : c.set_word.new.dat ≡ with_word own.dat 32 (next + 1) =
    c.set_word.ensures.value ∙ ap (λ n. with_word own.dat 32 ((n + 1) % 4294967296)) c.next_place-next.ensures ∙
    with_word-wrapped own.dat 32 (next + 1) fits in
    ap (λ (d : List ℕ). record own { dat = d }) (c.set_word-in-Some.ensures.value ∙ ap (λ (d : List ℕ). with_word d 4
    c.in-Some.number)
    (c.set_word-2.ensures.value ∙ ap (λ (d : List ℕ). with_word d 0 c.args.r0) moved))
    ∙ ap (λ (o : Option ℕ). with_image own (with_result (image_of own) (pos c.args.r0) (option_map pos o))) (sym
    c.in-Some.is)

pub returns-in_default-clause-value : goal.returns-in_default-clause-value
returns-in_default-clause-value c =
    let own = c.args.own.now in
    let next = place_of (image_of own) in
    let fits : next + 1 ≤ 4294967296 = omega (arith, c.next_place-next.ensures, c.next_place-next.type_inv) in
    let moved : c.set_word.new.dat ≡ with_word own.dat 32 (next + 1) =
    c.set_word.ensures.value ∙ ap (λ n. with_word own.dat 32 ((n + 1) % 4294967296)) c.next_place-next.ensures ∙
    with_word-wrapped own.dat 32 (next + 1) fits in
    ap (λ (d : List ℕ). record own { dat = d }) (c.set_word-2.ensures.value ∙ ap (λ (d : List ℕ). with_word d 0
    c.args.r0) moved)
    ∙ ap (λ (o : Option ℕ). with_image own (with_result (image_of own) (pos c.args.r0) (option_map pos o))) (sym
    c.in_default.is)
