-- The next ready thread in the round by slot and then thread.
use Rattle.std.proofs.Common.{◌≡◌, ◌∙◌, inl, inr, ℕ, ◌+◌, ◌*◌, ◌<◌, ◌≤◌, true, false, ap, arith, Option, Some, None}
use Rattle.std.proofs.Common.{MatchOption}
use Rattle.std.proofs.lemmas.Bool.{cases_lt}
use Rattle.win32_spec.specs.State.{Win32State}
use Rattle.win32_spec.specs.Ready.{is_ready, distance, IsQuiet, IsNextReady}
use Rattle.w32_machine.specs.Contract.{OnlyFew}
use Rattle.w32_machine.specs.Looking.{IsNoneFrom, IsFirstFrom, IsNoneAmong, IsFirstAmong}
use Rattle.w32_machine.proofs.Readiness.{not-ready}

module _ (s : Win32State) (last_slot last : ℕ) (few_slots : last_slot ≤ 64) (few : last ≤ 2)
    (only : OnlyFew s) where
  -- how far a thread ahead of the last one is, and one behind it
  ahead : (slot t : ℕ) → slot ≤ 64 → t ≤ 2 → 3 * last_slot + last < 3 * slot + t
      → distance last_slot last slot t + (3 * last_slot + last) + 1 ≡ 3 * slot + t
  ahead slot t a b l = omega (arith, few_slots, few)

  behind : (slot t : ℕ) → slot ≤ 64 → t ≤ 2 → 3 * slot + t ≤ 3 * last_slot + last
      → distance last_slot last slot t + (3 * last_slot + last) ≡ 3 * slot + t + 194
  behind slot t a b l = omega (arith, few_slots, few)

  -- a ready thread is the next one where none that is nearer is ready
  next-of : (slot t : ℕ) → is_ready s slot t ≡ true
      → ((a u : ℕ) → a ≤ 64 → u ≤ 2 → distance last_slot last a u < distance last_slot last slot t
      → is_ready s a u ≡ false) → IsNextReady s last_slot last slot t
  next-of slot t ready none = record {
    ready = ready;
    first = λ a u e.
        elim (cases_lt (distance last_slot last a u) (distance last_slot last slot t)) [
          | inl near ↦
              let f : is_ready s a u ≡ false = none a u (only a u e).0 (only a u e).1 near in absurd (cc)
          | inr far ↦ far
        ];
  }

  -- it is in the last one's slot
  pub next-here : (t : ℕ) → IsFirstFrom s last_slot (last + 1) t → IsNextReady s last_slot last last_slot t
  next-here t it = next-of last_slot t it.ready (λ a u few_a few_u near.
      let range = only last_slot t it.ready in
      let far = ahead last_slot t range.0 range.1 (omega (arith, it.from_on)) in
      elim (cases_lt (3 * last_slot + last) (3 * a + u)) [
        | inl before ↦
            let own = ahead a u few_a few_u before in
            let same : a ≡ last_slot = omega (arith, own, far, near, few, range.1, few_u) in
            let f : is_ready s last_slot u ≡ false = it.first u (omega (arith, before, same))
            (omega (arith, own, far, near, same)) in
            ap (λ i. is_ready s i u) same ∙ f
        | inr after ↦
            let own = behind a u few_a few_u after in absurd (omega (arith, own, far, near, range.1, few_slots, few))
      ])

  -- it is in a slot above
  pub next-above : (slot t : ℕ) → IsNoneFrom s last_slot (last + 1) → IsFirstAmong s (last_slot + 1) 65 slot t
      → IsNextReady s last_slot last slot t
  next-above slot t here it = next-of slot t it.ready (λ a u few_a few_u near.
      let range = only slot t it.ready in
      let far = ahead slot t range.0 range.1 (omega (arith, it.from_on, few)) in
      elim (cases_lt (3 * last_slot + last) (3 * a + u)) [
        | inl before ↦
            let own = ahead a u few_a few_u before in
            let below : 3 * a + u < 3 * slot + t = omega (arith, own, far, near) in
            elim (cases_lt last_slot a) [
              | inl above ↦
                  elim (cases_lt a slot) [
                    | inl lower ↦ it.slots a u (omega (arith, above)) lower
                    | inr upper ↦
                        let same : a ≡ slot = omega (arith, upper, below, range.1, few_u) in
                        let f : is_ready s slot u ≡ false = it.threads u (omega (arith, same, below)) in
                        ap (λ i. is_ready s i u) same ∙ f
                  ]
              | inr beneath ↦
                  let same : a ≡ last_slot = omega (arith, beneath, before, few_u, few) in
                  let f : is_ready s last_slot u ≡ false = here u (omega (arith, before, same)) in
                  ap (λ i. is_ready s i u) same ∙ f
            ]
        | inr after ↦
            let own = behind a u few_a few_u after in absurd (omega (arith, own, far, near, range.0, range.1))
      ])

  -- it is in a slot below, or in the last one's own slot and not after the last one
  pub next-below : (slot t : ℕ) → IsNoneFrom s last_slot (last + 1) → IsNoneAmong s (last_slot + 1) 65
      → IsFirstAmong s 0 (last_slot + 1) slot t → IsNextReady s last_slot last slot t
  next-below slot t here above it = next-of slot t it.ready (λ a u few_a few_u near.
      elim (cases_lt last_slot a) [
        | inl higher ↦ above a u (omega (arith, higher)) (omega (arith, few_a))
        | inr beneath ↦
            elim (cases_lt (3 * last_slot + last) (3 * a + u)) [
              | inl before ↦
                  let same : a ≡ last_slot = omega (arith, beneath, before, few_u, few) in
                  let f : is_ready s last_slot u ≡ false = here u (omega (arith, before, same)) in
                  ap (λ i. is_ready s i u) same ∙ f
              | inr after ↦
                  let own = behind a u few_a few_u after in
                  let below : 3 * a + u < 3 * slot + t = nearer slot t here it a u after own near in
                  elim (cases_lt a slot) [
                    | inl lower ↦ it.slots a u (omega arith) lower
                    | inr upper ↦
                        let range = only slot t it.ready in
                        let same : a ≡ slot = omega (arith, upper, below, range.1, few_u) in
                        let f : is_ready s slot u ≡ false = it.threads u (omega (arith, same, below)) in
                        ap (λ i. is_ready s i u) same ∙ f
                  ]
            ]
      ])
    where
      nearer : (slot t : ℕ) → IsNoneFrom s last_slot (last + 1) → IsFirstAmong s 0 (last_slot + 1) slot t
          → (a u : ℕ) → 3 * a + u ≤ 3 * last_slot + last
          → distance last_slot last a u + (3 * last_slot + last) ≡ 3 * a + u + 194
          → distance last_slot last a u < distance last_slot last slot t → 3 * a + u < 3 * slot + t
      nearer slot t here it a u after own near =
          let range = only slot t it.ready in
          elim (cases_lt (3 * last_slot + last) (3 * slot + t)) [
            | inl before ↦
                let same : slot ≡ last_slot = omega (arith, it.below, before, range.1, few) in
                let f : is_ready s last_slot t ≡ false = here t (omega (arith, before, same)) in
                let g : is_ready s slot t ≡ false = ap (λ i. is_ready s i t) same ∙ f in
                let r = it.ready in
                absurd (cc)
            | inr after_too ↦
                let far = behind slot t range.0 range.1 after_too in omega (arith, own, far, near)
          ]

  -- there is none
  pub none-next : IsNoneAmong s (last_slot + 1) 65 → IsNoneAmong s 0 (last_slot + 1) → IsQuiet s
  none-next above below slot t = not-ready s slot t (λ e.
      elim (cases_lt last_slot slot) [
        | inl higher ↦
            let f : is_ready s slot t ≡ false = above slot t (omega (arith, higher))
            (omega (arith, (only slot t e).0)) in
            absurd (cc)
        | inr beneath ↦ let f : is_ready s slot t ≡ false = below slot t (omega arith) (omega (arith, beneath)) in
            absurd (cc)
      ])

  -- the last look
  pub next-last : (o : Option (ℕ × ℕ)) → IsNoneFrom s last_slot (last + 1) → IsNoneAmong s (last_slot + 1) 65
      → MatchOption o (IsNoneAmong s 0 (last_slot + 1)) (λ next. IsFirstAmong s 0 (last_slot + 1) next.0 next.1)
      → MatchOption o (IsQuiet s) (λ next. IsNextReady s last_slot last next.0 next.1)
  next-last None here above none = none-next above none
  next-last (Some next) here above it = next-below next.0 next.1 here above it
