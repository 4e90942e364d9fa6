-- The taken pages, page by page; and what is a place by one list of taken pages is one by another that says the same.
use Rattle.std.proofs.Common.{◌≡◌, ℕ, ◌≤◌, ◌<◌, Bool, true, List, length, slice_index_or, sym, ◌∙◌, arith}
use Rattle.std.proofs.lemmas.List.FromFn.{get_or-map-range_with_len, length-map-range_with_len}
use Rattle.script_spec.specs.declared.script.Script.{Script}
use Rattle.win32_spec.specs.Regions.{IsFreeRange, IsPlaceFor}
use Rattle.win32_spec.specs.State.{PlacedModule}
use Rattle.win32_spec.specs.Placing.{is_taken, taken_pages}

pub length-taken_pages : (script : Script) (creation : ℕ) (placed : List PlacedModule)
    → length (taken_pages script creation placed) ≡ 1024
unfolding taken_pages
length-taken_pages script creation placed = length-map-range_with_len (is_taken script creation placed) 0 1024

pub taken_pages-at : (script : Script) (creation : ℕ) (placed : List PlacedModule) (page : ℕ) → page < 1024
    → slice_index_or (taken_pages script creation placed) page true ≡ is_taken script creation placed page
unfolding taken_pages
taken_pages-at script creation placed page l =
    get_or-map-range_with_len (is_taken script creation placed) 0 1024 page page true l (omega arith)

-- two lists that say the same of each of the 1024 pages
abbrev pub SayTheSame : List Bool → List Bool → Type 0
SayTheSame a b = (page : ℕ) → page < 1024 → slice_index_or a page true ≡ slice_index_or b page true

free-same : (a b : List Bool) (base size : ℕ) → SayTheSame a b → IsFreeRange a base size → IsFreeRange b base size
free-same a b base size same h = record {
  within = h.within;
  free = λ page l m. sym (same page (omega (arith, h.within))) ∙ h.free page l m;
}

pub place-same : (a b : List Bool) (wanted size base : ℕ) → SayTheSame a b → IsPlaceFor a wanted size base
    → IsPlaceFor b wanted size base
place-same a b wanted size base same h =
    let back : SayTheSame b a = λ page l. sym (same page l) in (
      free-same a b base size same h.0,
      λ free. h.1 (free-same b a wanted size back free),
      λ taken lower free. h.2 (λ f. taken (free-same a b wanted size same f)) lower
          (free-same b a lower size back free),
    )

-- there is one place at most
pub place-unique : (taken : List Bool) (wanted size a b : ℕ) → IsPlaceFor taken wanted size a
    → IsPlaceFor taken wanted size b
    → ((IsFreeRange taken wanted size → ⊥) → a ≤ b) × ((IsFreeRange taken wanted size → ⊥) → b ≤ a)
    × (IsFreeRange taken wanted size → a ≡ b)
place-unique taken wanted size a b h k = (λ n. h.2 n b k.0, λ n. k.2 n a h.0, λ f. h.1 f ∙ sym (k.1 f))
