use Rattle.std.proofs.Common.{◌∙◌, ◌≡◌, ◌<◌, Some, None, IsSome, length, sym, subst, arith}
use Rattle.std.proofs.lemmas.List.{get_or_read}
use Rattle.win32_spec.specs.Driven.{part_at}
use Rattle.w32_driven.proofs.Places.{part-get, part-set, part-aside}
use Rattle.w32_driven.proofs.driven.go_on.Goals as goal

pub returns-in-Some-clause-went : goal.returns-in-Some-clause-went
returns-in-Some-clause-went g c =
    let parts = c.args.parts.now.items in
    let slot = c.args.by.now.slot in
    let t = c.args.by.now.thread in
    let within : c.place.result < length parts = omega (arith, c.place.ensures.within, c.requires.places) in
    record {
      part = c.in-Some.part;
      next = c.go_on.new.part;
      was = sym (part-get parts slot t c.place.result c.requires.caller.thread c.place.ensures.value None)
          ∙ sym (get_or_read parts c.place.result c.index_mut.result.now within c.index_mut.ensures.value None)
          ∙ c.in-Some.is;
      went = c.go_on.ensures.went;
      here = part-set parts slot t c.place.result c.requires.caller.thread c.place.ensures.value
          (Some c.go_on.new.part) within;
      others = part-aside parts slot t c.place.result c.requires.caller.thread c.place.ensures.value
          (Some c.go_on.new.part);
    }

pub returns-in-None-clause-went : goal.returns-in-None-clause-went
returns-in-None-clause-went g c =
    let parts = c.args.parts.now.items in
    let slot = c.args.by.now.slot in
    let t = c.args.by.now.thread in
    let within : c.place.result < length parts = omega (arith, c.place.ensures.within, c.requires.places) in
    let none : part_at parts slot t ≡ None =
    sym (part-get parts slot t c.place.result c.requires.caller.thread c.place.ensures.value None)
    ∙ sym (get_or_read parts c.place.result c.index_mut.result.now within c.index_mut.ensures.value None)
    ∙ c.in-None.is in
    let some = subst (λ o. IsSome o) none c.requires.part in
    absurd (cc)
