-- The event of an entry, and the one that the part gave: they differ in the number of a death by the world alone.
use Rattle.std.proofs.Common.{◌≡◌, Bool, true, false, Option, Some, None, refl, sym, ap, ◌∙◌}
use Rattle.w32_base.specs.declared.event.Death.{Death}
use Rattle.w32_base.specs.declared.event.Death.TheVariants as death
use Rattle.w32_base.specs.declared.event.Event.{Event}
use Rattle.w32_base.specs.declared.event.Event.TheVariants as event
use Rattle.layer_spec.specs.History.{death_given, event_given, given_of}

abbrev pub is_whole_death : Death → Bool
is_whole_death death.Exit = true
is_whole_death death.Signal = true
is_whole_death death.Fault = true
is_whole_death (death.World n) = false

abbrev pub is_whole_event : Event → Bool
is_whole_event (event.Die p v cause) = is_whole_death cause
is_whole_event _ = true

-- whether the event of an entry is the one that the part gave, whatever number is put in
abbrev pub is_told_whole : Option Event → Bool
is_told_whole None = true
is_told_whole (Some e) = is_whole_event e

whole-given : (e : Event) → is_whole_event (event_given e) ≡ true → event_given e ≡ e
whole-given (event.Die p v death.Exit) whole = refl
whole-given (event.Die p v death.Signal) whole = refl
whole-given (event.Die p v death.Fault) whole = refl
whole-given (event.Die p v (death.World n)) whole = absurd (let never : false ≡ true = whole in cc)
whole-given _ whole = refl

-- So where the part gave no such death, the event of the entry is the part's own.
pub told-given : (told given : Option Event) → given_of told ≡ given → is_told_whole given ≡ true → told ≡ given
told-given None given is whole = is
told-given (Some e) given is whole =
    let own : is_whole_event (event_given e) ≡ true = ap is_told_whole is ∙ whole in
    ap Some (sym (whole-given e own)) ∙ is
