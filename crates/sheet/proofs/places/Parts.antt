-- Where a lookup's part stands, in numbers, and the part that these cut out of the sheet.
use Rattle.octets.proofs.Kit.{ℕ, ◌+◌, ◌<◌, ◌≤◌, ◌≡◌, refl, sym, ap, subst, ◌∙◌, List, [], Bool, true, false, cond, eqb, ltb, length, take, drop, length-take, length-drop, eq-eqb, ne_eqb}
use Rattle.octets.proofs.Kit.{eqb-true, lt-ltb, le-ltb, ltb-true, arith}
use Rattle.std.proofs.Common.{Bor}
use Rattle.sheet.specs.{Kind.{kinds, OfKind}, Entries.{count, entry, offset_of, length_of, body_end}, Rules.{verdict_of, refusal_of, Accepted, is_accepted}}
use Rattle.sheet.specs.{Lookup.{PartOf, StandsIn, index_of, body_of, body_from, lookup, lookup_from}, Walk.Counted, Refused.number_of}
use Rattle.sheet.specs.declared.{Part.Part, Refused.{Refused, TheVariants.{Bad, Old}}, accepted.Sheet.Sheet}
use Rattle.sheet.proofs.{rules.{ByKind.kinded, Good.good}, places.BodyPlaces.within, searches.SearchLoops.body_end_lem, promises.Verdicts.refused_none}

-- a refusal has a number
some_number : (why : Refused) → number_of why ≡ 0 → ⊥
some_number Bad e = omega arith
some_number Old e = omega arith

module _ (s : List ℕ) where
  cut : (a z : ℕ) (x : List ℕ) (f : ℕ) → a + z ≤ length s → take z (drop a s) ≡ x → a ≡ f → StandsIn s (record { offset = a; length = z }) x f
  cut a z x f b q w =
      let l : z ≡ length (take z (drop a s)) = simp (length-take, length-drop) (omega arith) in
      record { is = q; long = l ∙ ap length q; place = w }

  pub no_bytes : StandsIn s (record { offset = 0; length = 0 }) [] 0
  no_bytes = cut 0 0 [] 0 (omega arith) refl refl

  none_there : (k i : ℕ) → count s k ≤ i → StandsIn s (record { offset = 0; length = 0 }) (body_of s k i) (body_from s k i)
  unfolding body_of body_from
  none_there k i l = rw (le-ltb i (count s k) l) no_bytes

  module _ (k i n : ℕ) (c : Counted s k n) where
    pub no_part : n ≤ i → StandsIn s (record { offset = 0; length = 0 }) (body_of s k i) (body_from s k i)
    no_part h = none_there k i (omega (arith, c.is))

    pub the_part :
        (e : List ℕ) (a z : ℕ) → Accepted s → k < kinds → i < n → e ≡ entry s k i → a ≡ offset_of k e →
        OfKind z k (length_of 0 e) (length_of 1 e) (length_of 2 e) (length_of 3 e) →
        StandsIn s (record { offset = a; length = z }) (body_of s k i) (body_from s k i)
    unfolding body_of body_from
    the_part e a z ok hk h ee ea ez =
        let l : i < count s k = omega (arith, c.is) in
        rw (lt-ltb i (count s k) l, ← ee)
        (cut a z _ _ (body_end_lem s k i n e a z ok hk c h ee ea ez) (rw (ea, kinded ez)) ea)

  -- of a sheet that is not accepted, and of one that is
  module _ (k i : ℕ) where
    pub no_sheet_lem : (why : Refused) → number_of why ≡ refusal_of s → StandsIn s (record { offset = 0; length = 0 }) (lookup s k i) (lookup_from s k i)
    unfolding lookup lookup_from is_accepted
    no_sheet_lem why e = rw (ne_eqb (verdict_of s) 0 (λ z. some_number why (e ∙ refused_none s z))) no_bytes

    of_accepted : Accepted s → (p : Part) → StandsIn s p (body_of s k i) (body_from s k i) → StandsIn s p (lookup s k i) (lookup_from s k i)
    unfolding lookup lookup_from is_accepted
    of_accepted ok p b = rw (eq-eqb (verdict_of s) 0 ok) b

-- the bytes of a sheet are those that were lent
module _ {s : List ℕ} (sheet : Sheet) (e : sheet.bytes.now ≡ s) (k : ℕ) where
  pub in_sheet : (i : ℕ) (p : Part) → StandsIn sheet.bytes.now p (body_of sheet.bytes.now k i) (body_from sheet.bytes.now k i) →
      StandsIn s p (lookup s k i) (lookup_from s k i)
  in_sheet i p b = subst (λ (t : List ℕ). StandsIn t p (lookup t k i) (lookup_from t k i)) e (of_accepted sheet.bytes.now k i sheet.accepted p b)

  module _ (x : ℕ) where
    pub found_in : (i : ℕ) (p : Part) → i ≡ index_of sheet.bytes.now k x → StandsIn sheet.bytes.now p (body_of sheet.bytes.now k i) (body_from sheet.bytes.now k i) →
        StandsIn s p (lookup s k (index_of s k x)) (lookup_from s k (index_of s k x))
    found_in i p q b =
        subst (λ (t : List ℕ). StandsIn t p (lookup t k (index_of t k x)) (lookup_from t k (index_of t k x))) e
        (rw (← q) (of_accepted sheet.bytes.now k i sheet.accepted p b))

    pub none_in : index_of sheet.bytes.now k x ≡ count sheet.bytes.now k →
        StandsIn s (record { offset = 0; length = 0 }) (lookup s k (index_of s k x)) (lookup_from s k (index_of s k x))
    none_in q =
        subst (λ (t : List ℕ). StandsIn t (record { offset = 0; length = 0 }) (lookup t k (index_of t k x)) (lookup_from t k (index_of t k x))) e
        (of_accepted sheet.bytes.now k (index_of sheet.bytes.now k x) sheet.accepted (record { offset = 0; length = 0 }) (none_there sheet.bytes.now k (index_of sheet.bytes.now k x) (omega (arith, q))))

-- the part that a lookup says lies within the sheet
pub part_in : (s : List ℕ) (k i : ℕ) (p : Part) → k < kinds → StandsIn s p (lookup s k i) (lookup_from s k i) → p.offset + p.length ≤ length s
unfolding lookup_from is_accepted body_from body_end
part_in s k i p hk h =
    let f = from (eqb (verdict_of s) 0) (ltb i (count s k)) (eqb-true (verdict_of s) 0) (ltb-true i (count s k)) in
    let l : p.length ≡ length (take p.length (drop p.offset s)) = h.long ∙ sym (ap length h.is) in
    omega (arith, h.place, simp (length-take, length-drop) at l)
  where
    from :
        (a b : Bool) → (a ≡ true → Accepted s) → (b ≡ true → i < count s k) →
        cond a (cond b (offset_of k (entry s k i)) 0) 0 ≤ length s
    from true true e h = omega (arith, within (good s (e refl)) k i hk (h refl))
    from true false e h = omega arith
    from false b e h = omega arith

-- and cut out it is what the lookup hands back
pub part_of :
    (s r : Bor (List ℕ)) (p : Part) (x : List ℕ) (f : ℕ) → StandsIn s.now p x f →
    PartOf s r (take p.length (drop p.offset s.now)) p.offset → PartOf s r x f
part_of s r p x f h c = record { is = c.is ∙ h.is; block = c.block; place = rw (← h.place) c.place }
