-- The rows judge a trace as the nine propositions do. Assumes nothing.
use Rattle.octets.proofs.Kit.{ℕ, zero, suc, ◌+◌, ◌<◌, ◌≡◌, refl, sym, ◌∙◌, ap, subst, Bool, true, false, cond, List, [], ◌∷◌, length, dec_lt, ℕ_discrete, arith, eq-eqb, ne_eqb}
use Rattle.sheet.{specs.{Demand.{Demand, test, Holds, Fails, breach, Met, Tells}, First.{first, or_else}, Layout.◌of◌}, proofs.rules.Demands.{passed, failed, told, met, unbroken}}
use Rattle.sheet.proofs.rules.First.{or_else_some, first_each, first_all, first_stop}
use Rattle.playback.specs.{Trace.{count, entry_of}, Rules.{reached, head_demands, stray, event_demands, end_demands, head_rule, event_rule, walk_rule, refusal_of}}
use Rattle.playback.specs.Plain.{beginning, Tabled, Sound, AllSound, Judged, breaks50, breaks51, breaks52, breaks53, breaks54, breaks55, breaks56, breaks57, breaks58, none}
use Rattle.playback.specs.Entry as entry
use Rattle.playback.proofs.Walking.{head_broken, walk_told}

-- what is to be shown of each row: of its rule where it fails, and of the rows below where it holds
abbrev Rowwise : (ℕ → Type 0) → List Demand → Type 0
Rowwise J [] = J 0
Rowwise J (d ∷ ds) = (Fails d.order → J d.rule) × (Holds d.order → Rowwise J ds)

row_by_row : (J : ℕ → Type 0) (ds : List Demand) → Rowwise J ds → J (breach ds)
unfolding breach
row_by_row J [] h = h
row_by_row J (d ∷ ds) h =
    split (test d.order) refl (λ e. row_by_row J ds (h.1 (passed d.order e))) (λ e. h.0 (failed d.order e))
  where
    split : (b : Bool) → test d.order ≡ b → (test d.order ≡ true → J (breach ds)) → (test d.order ≡ false → J d.rule)
        → J (cond b (breach ds) d.rule)
    split true e f g = f e
    split false e f g = g e

-- and of each of n numbers: of the first that is not 0, or of 0
first_by_first : (J : ℕ → Type 0) (f : ℕ → ℕ) (n : ℕ) → ((i : ℕ) → i < n → first f i ≡ 0 → (f i ≡ 0 → ⊥) → J (f i)) → (first f n ≡ 0 → J 0)
    → J (first f n)
unfolding first
first_by_first J f zero h z = z refl
first_by_first J f (suc n) h z =
    go (ℕ_discrete (first f n) 0) (ℕ_discrete (f n) 0) (first_by_first J f n (λ i l. h i (omega arith)))
  where
    go : Dec (first f n ≡ 0) → Dec (f n ≡ 0) → ((first f n ≡ 0 → J 0) → J (first f n)) → J (or_else (first f n) (f n))
    go (yes e) (yes k) ih = let w : or_else (first f n) (f n) ≡ 0 = ap (λ (a : ℕ). or_else a (f n)) e ∙ k in subst J (sym w) (z w)
    go (yes e) (no k) ih = subst J (sym (ap (λ (a : ℕ). or_else a (f n)) e)) (h n (omega arith) e k)
    go (no e) d ih = subst J (sym (or_else_some (first f n) (f n) e)) (ih (λ x. absurd (e x)))

-- 54 as row and as proposition
module _ (e : List ℕ) where
  to54 : stray e ≡ 0 → 0 < entry.length of e → entry.kind of e ≡ 0
  to54 h l = go (ℕ_discrete (entry.kind of e) 0)
    where
      go : Dec (entry.kind of e ≡ 0) → entry.kind of e ≡ 0
      go (yes k) = k
      go (no k) = absurd (omega (arith, rw (ne_eqb (entry.kind of e) 0 k) at h))

  from54 : (0 < entry.length of e → entry.kind of e ≡ 0) → stray e ≡ 0
  from54 h = go (ℕ_discrete (entry.kind of e) 0) (dec_lt 0 (entry.length of e))
    where
      go : Dec (entry.kind of e ≡ 0) → Dec (0 < entry.length of e) → stray e ≡ 0
      go (yes k) d = rw (eq-eqb (entry.kind of e) 0 k)
      go (no k) (yes l) = absurd (k (h l))
      go (no k) (no l) = rw (ne_eqb (entry.kind of e) 0 k) (omega arith)

module _ (t : List ℕ) where
  -- the rows of event i
  abbrev Rows : ℕ → List Demand
  Rows i = event_demands (reached t i) (length t) (entry_of t i)

  -- where the rows hold up to an event, its APDU is to begin where the propositions say; and where these hold
  begins_rows : (i : ℕ) → ((j : ℕ) → j < i → Met (Rows j)) → reached t i ≡ beginning t i
  unfolding reached
  begins_rows zero h = refl
  begins_rows (suc i) h = ap (λ (z : ℕ). z + entry.length of entry_of t i) (sym (h i (omega arith)).1.1.1.0)

  begins_sound : (i : ℕ) → AllSound t i → reached t i ≡ beginning t i
  unfolding reached
  begins_sound zero h = refl
  begins_sound (suc i) h =
      ap (λ (z : ℕ). z + entry.length of entry_of t i) (begins_sound i (λ j l. h j (omega arith)) ∙ sym (h i (omega arith)).3)

  module _ (i : ℕ) (b : reached t i ≡ beginning t i) where
    to_sound : Met (Rows i) → Sound t i
    to_sound m = (m.0, to54 (entry_of t i) m.1.0, m.1.1.0, m.1.1.1.0 ∙ b, omega (arith, m.1.1.1.0, m.1.1.1.1.0))

    from_sound : Sound t i → Met (Rows i)
    from_sound s = (s.0, (from54 (entry_of t i) s.1, (s.2, (s.3 ∙ sym b, (omega (arith, s.3, s.4, b), tt)))))

  -- no event up to n has broken a rule
  module _ (n : ℕ) (e : first (event_rule t) n ≡ 0) where
    rows : (i : ℕ) → i < n → Met (Rows i)
    unfolding event_rule
    rows i l = met (Rows i) tt (first_each (event_rule t) n i e l)

    start : reached t n ≡ beginning t n
    start = begins_rows n rows

    all_sound : AllSound t n
    all_sound i l = to_sound i (begins_rows i (λ j k. rows j (omega arith))) (rows i l)

  clean : (n : ℕ) → AllSound t n → first (event_rule t) n ≡ 0
  unfolding event_rule
  clean n h =
      first_all (event_rule t) n (λ i l. unbroken (Rows i) (from_sound i (begins_sound i (λ j k. h j (omega arith))) (h i l)))

  -- event i, those before it having broken no rule
  module _ (tabled : Tabled t) where
    abbrev J : ℕ → Type 0
    J k = Judged t (or_else k (breach (end_demands t)))

    at_event : (i : ℕ) → i < count t → first (event_rule t) i ≡ 0 → (event_rule t i ≡ 0 → ⊥) → J (event_rule t i)
    unfolding event_rule
    at_event i l e n =
        let s : AllSound t i = all_sound i e in
        let b : reached t i ≡ beginning t i = start i e in
        row_by_row J (Rows i) (
          (λ f. breaks53 tabled i l s (λ x. omega arith)),
          λ a. (
            (λ f. breaks54 tabled i l s a (λ x. f (from54 (entry_of t i) x))),
            λ c. (
              (λ f. breaks55 tabled i l s a (to54 (entry_of t i) c) f),
              λ d. (
                (λ f. breaks56 tabled i l s a (to54 (entry_of t i) c) d (λ x. f (x ∙ sym b))),
                λ o. (
                  (λ f. breaks57 tabled i l s a (to54 (entry_of t i) c) d (o ∙ b) (λ x. omega (arith, x, f, o))),
                  λ z. absurd (n (unbroken (Rows i) (a, (c, (d, (o, (z, tt))))))),
                ),
              ),
            ),
          ),
        )

    at_end : first (event_rule t) (count t) ≡ 0 → J 0
    at_end e =
        row_by_row (Judged t) (end_demands t) (
          (λ f. breaks58 tabled (all_sound (count t) e) (λ x. f (start (count t) e ∙ x))),
          λ h. none tabled (all_sound (count t) e) (sym (start (count t) e) ∙ h),
        )

    walked : Judged t (walk_rule t)
    unfolding walk_rule
    walked = first_by_first J (event_rule t) (count t) at_event at_end

  -- THE FIRST RULE BROKEN JUDGES THE TRACE
  pub judged : Judged t (refusal_of t)
  unfolding refusal_of head_rule
  judged =
      row_by_row (λ k. Judged t (or_else k (walk_rule t))) (head_demands t) (
        (λ f. breaks50 (λ x. omega arith)),
        λ a. (
          (λ f. breaks51 a (λ x. omega arith)),
          λ b. ((λ f. breaks52 a b (λ x. omega arith)), λ c. walked (a, b, c)),
        ),
      )

  -- of a trace whose table fits, and whose first i events are sound
  module _ (tabled : Tabled t) where
    heads : Tells 0 (head_demands t)
    heads = (
      (λ f. absurd (omega (arith, tabled.0))),
      λ _. ((λ f. absurd (omega (arith, tabled.1))), λ _. ((λ f. absurd (omega (arith, tabled.2))), λ _. refl)),
    )

    breaks_at : (k i : ℕ) → (k ≡ 0 → ⊥) → i < count t → AllSound t i → Tells k (Rows i) → k ≡ refusal_of t
    unfolding walk_rule event_rule
    breaks_at k i n l s h =
        let e : k ≡ event_rule t i = told k (Rows i) h in
        let f : k ≡ first (event_rule t) (count t) = e ∙ first_stop (event_rule t) (count t) i l (clean i s) (λ x. n (e ∙ x)) in
        walk_told t 0 k heads refl (rw (← f) (sym (or_else_some k (breach (end_demands t)) n)))

    ends_at : (k : ℕ) → AllSound t (count t) → Tells k (end_demands t) → k ≡ refusal_of t
    unfolding walk_rule
    ends_at k s h = walk_told t 0 k heads refl (rw (clean (count t) s) (told k (end_demands t) h))

  -- AND NO OTHER NUMBER DOES
  pub judged_only : {n : ℕ} → Judged t n → n ≡ refusal_of t
  judged_only (breaks50 n) = head_broken t 50 ((λ _. refl), λ x. absurd (n x)) (λ z. omega arith)
  judged_only (breaks51 a n) =
      head_broken t 51 ((λ f. absurd (omega arith)), λ _. ((λ _. refl), λ x. absurd (n x))) (λ z. omega arith)
  judged_only (breaks52 a b n) =
      head_broken t 52 ((λ f. absurd (omega arith)), λ _. ((λ f. absurd (omega arith)), λ _. ((λ _. refl), λ x. absurd (n x)))) (λ z. omega arith)
  judged_only (breaks53 h i l s n) = breaks_at h 53 i (λ z. omega arith) l s ((λ _. refl), λ x. absurd (n x))
  judged_only (breaks54 h i l s a n) =
      breaks_at h 54 i (λ z. omega arith) l s ((λ f. absurd (omega arith)), λ _. ((λ _. refl), λ x. absurd (n (to54 (entry_of t i) x))))
  judged_only (breaks55 h i l s a c n) =
      breaks_at h 55 i (λ z. omega arith) l s (
        (λ f. absurd (omega arith)),
        λ _. (
          (λ f. absurd (f (from54 (entry_of t i) c))),
          λ _. ((λ _. refl), λ x. absurd (n x)),
        ),
      )
  judged_only (breaks56 h i l s a c d n) =
      breaks_at h 56 i (λ z. omega arith) l s (
        (λ f. absurd (omega arith)),
        λ _. (
          (λ f. absurd (f (from54 (entry_of t i) c))),
          λ _. ((λ f. absurd (f d)), λ _. ((λ _. refl), λ x. absurd (n (x ∙ begins_sound i s)))),
        ),
      )
  judged_only (breaks57 h i l s a c d o n) =
      breaks_at h 57 i (λ z. omega arith) l s (
        (λ f. absurd (omega arith)),
        λ _. (
          (λ f. absurd (f (from54 (entry_of t i) c))),
          λ _. (
            (λ f. absurd (f d)),
            λ _. (
              (λ f. absurd (f (o ∙ sym (begins_sound i s)))),
              λ e. ((λ _. refl), λ x. absurd (n (omega (arith, e, x)))),
            ),
          ),
        ),
      )
  judged_only (breaks58 h s n) = ends_at h 58 s ((λ _. refl), λ x. absurd (n (sym (begins_sound (count t) s) ∙ x)))
  judged_only (none h s e) = ends_at h 0 s ((λ f. absurd (f (begins_sound (count t) s ∙ e))), λ _. refl)
