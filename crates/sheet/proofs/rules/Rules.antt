-- The walk: what its steps leave, and where it leaves, with which rule.
use Rattle.octets.proofs.Kit.{ℕ, zero, suc, ◌+◌, ◌*◌, ◌≤◌, ◌<◌, ◌≡◌, refl, sym, ◌∙◌, ap, subst, subst⁻¹, List, Bool, true, false, cond, eqb, leb, dec_lt, add-one, arith}
use Rattle.std.specs.Prelude.{Result, Ok, Err, IfOk}
use Rattle.octets.specs.Bytes.{num_at}
use Rattle.sheet.specs.{Demand.{Tells, breach}, First.{first, or_else}, Kind.{regions, properties, groups, users, by_kind, kinds, OfKind}, Layout.◌of◌}
use Rattle.sheet.specs.{Entries.{count, size, base, place, contents, entry, floor, floor_after, offset_of, length_of, six_bits, body_end, start_of, reached}, Rules.region_demands}
use Rattle.sheet.specs.Rules.{property_demands, group_demands, entry_demands, body_demands, end_demands, frame_demands, zero_demands, entry_rule, body_rule, entries_rule, bodies_rule, rest_rule}
use Rattle.sheet.specs.{Rules.{walk_rule, rule_in, rule_of, edition}, Walk.{Framed, Entry, Counted, last_of, long, Late, Next, StepOver, Steps}, declared.{Fault.Fault, entry_rules.Step.Step}}
use Rattle.sheet.specs.Fault as fault
use Rattle.sheet.specs.Head as head
use Rattle.sheet.specs.Property as property
use Rattle.sheet.proofs.rules.{Demands.{told, met, unbroken as all-unbroken}, Faults.some_fault}
use Rattle.sheet.proofs.rules.First.{or_else_some, or_else_left, or_else_right, or_else_zero, or_else_assoc, first_none, first_suc, first_more, first_stop}

pub framed : (ed : ℕ) (s : List ℕ) (r : ℕ) → Tells r (frame_demands ed s) → r ≡ 0 → Framed ed s
framed ed s r t e = record { rows = met (frame_demands ed s) tt (sym (told r _ t) ∙ e) }

-- the rows of an entry, judged against what stands before it: where nothing does, the first word is not 0 by another row
id_low : (e : List ℕ) → property.id of e ≤ property.object_id of e
unfolding num_at
id_low e = omega arith

above : (j l f r : ℕ) (e : List ℕ) → l ≡ last_of j f → Tells r (by_kind j (region_demands l e) (property_demands (l + 1) e) (group_demands (l + 1) e))
    → Tells r (by_kind j (region_demands f e) (property_demands f e) (group_demands f e))
above zero l f r e q t = rw (← q) t
above (suc zero) l f r e q t =
    (t.0, λ h. (λ b. (t.1 h).0 (omega arith), λ b. (t.1 h).1 (omega (arith, id_low e))))
above (suc (suc (suc j))) l f r e q t = rw (← q) t
above (suc (suc zero)) l f r e q t = (t.0, λ h. (λ b. (t.1 h).0 (omega arith), λ b. (t.1 h).1 (omega arith)))

-- what follows from what holds of a step holds of it
ok_map : {P Q : Step → Type 0} (r : Result Step Fault) → ((q : Step) → P q → Q q) → IfOk r P → IfOk r Q
ok_map (Ok q) f h = f q h
ok_map (Err e) f h = tt

-- an entry of a kind, where the kind is known
module _ (s : List ℕ) (k i j : ℕ) (q : k ≡ j) where
  pub place_there : (a : ℕ) → a ≡ place s k i → a ≡ place s j i
  place_there a e = rw q at e

  says : (e : List ℕ) (a l z late : ℕ) (r : Result Step Fault) → e ≡ entry s j i → a ≡ place s k i → l ≡ last_of k (floor s k i)
      → StepOver (by_kind j (region_demands l e) (property_demands (l + 1) e) (group_demands (l + 1) e)) (last_of j (floor_after j e)) late (offset_of j e) z (six_bits s j e) (length_of j e) (a + size j) r
      → Steps s k i z late r
  says e a l z late r ee ea el v = subst⁻¹ (λ (x : ℕ). Steps s x i z late r) q (record { is = record { rule = rule; next = next } })
    where
      last : l ≡ last_of j (floor s j i)
      last = rw q at el

      rule : Tells (fault.told r) (entry_demands s j i)
      rule = unfold entry_demands in rw (← ee) (above j l (floor s j i) (fault.told r) e last v.rule)

      after : floor_after j e ≡ floor s j (i + 1)
      after = unfold floor in rw (add-one i, ee)

      up : a + size j ≡ place s j (i + 1)
      up = omega (arith, place_there a ea)

      kept : (q : Step) → Late late (offset_of j e) z (six_bits s j e) q.late → Late late (offset_of j (entry s j i)) z (six_bits s j (entry s j i)) q.late
      kept q h = subst (λ (y : List ℕ). Late late (offset_of j y) z (six_bits s j y) q.late) ee h

      next_of : (q : Step) → Next (last_of j (floor_after j e)) late (offset_of j e) z (six_bits s j e) (length_of j e) (a + size j) q
          → Next (last_of j (floor s j (i + 1))) late (offset_of j (entry s j i)) z (six_bits s j (entry s j i)) (length_of j (entry s j i)) (place s j (i + 1)) q
      next_of q x = record { at = x.at ∙ up; last = x.last ∙ ap (last_of j) after; kept = kept q x.kept; end = rw (← ee) x.end; short = rw (← ee) x.short }

      next : IfOk r (Next (last_of j (floor s j (i + 1))) late (offset_of j (entry s j i)) z (six_bits s j (entry s j i)) (length_of j (entry s j i)) (place s j (i + 1)))
      next = ok_map r next_of v.next

-- the same for each kind
module _ (s : List ℕ) (k i : ℕ) (e : List ℕ) (a l z late : ℕ) (r : Result Step Fault) (ea : a ≡ place s k i) (el : l ≡ last_of k (floor s k i)) where
  pub says_region : k ≡ regions → e ≡ entry s regions i
      → StepOver (region_demands l e) (floor_after regions e) late (offset_of regions e) z 0 (length_of regions e) (a + size regions) r → Steps s k i z late r
  unfolding six_bits
  says_region q ee v = says s k i regions q e a l z late r ee ea el v

  pub says_user : k ≡ users → e ≡ entry s users i
      → StepOver (region_demands l e) (floor_after regions e) late (offset_of regions e) z 0 (length_of regions e) (a + size regions) r → Steps s k i z late r
  unfolding six_bits
  says_user q ee v = says s k i users q e a l z late r ee ea el v

  pub says_property : k ≡ properties → e ≡ entry s properties i
      → StepOver (property_demands (l + 1) e) (last_of properties (floor_after properties e)) late (offset_of properties e) z 0 (length_of properties e) (a + size properties) r → Steps s k i z late r
  unfolding six_bits
  says_property q ee v = says s k i properties q e a l z late r ee ea el v

  pub says_group : k ≡ groups → e ≡ entry s groups i
      → StepOver (group_demands (l + 1) e) (last_of groups (floor_after groups e)) late (offset_of groups e) z (six_bits s groups e) (length_of groups e) (a + size groups) r → Steps s k i z late r
  says_group q ee v = says s k i groups q e a l z late r ee ea el v

-- a body breaks S9 or nothing, and so do bodies one after the other
data Ninth : ℕ → Type 0 where
  unbroken : Ninth 0
  ninth : Ninth 9

first_ninth : (f : ℕ → ℕ) → ((i : ℕ) → Ninth (f i)) → (n : ℕ) → Ninth (first f n)
unfolding first
first_ninth f h zero = unbroken
first_ninth f h (suc n) = both (first_ninth f h n) (h n)
  where
    both : {a b : ℕ} → Ninth a → Ninth b → Ninth (or_else a b)
    both unbroken b = b
    both ninth b = ninth

body_ninth : (s : List ℕ) (k i : ℕ) → Ninth (body_rule s k i)
unfolding body_rule body_demands breach
body_ninth s k i = go (eqb (offset_of k (entry s k i)) (reached s k i)) (leb (six_bits s k (entry s k i)) 63)
  where
    go : (t u : Bool) → Ninth (cond t (cond u 0 9) 9)
    go true true = unbroken
    go true false = ninth
    go false u = ninth

bodies_ninth : (s : List ℕ) (k : ℕ) → Ninth (bodies_rule s k)
unfolding bodies_rule
bodies_ninth s k = first_ninth (body_rule s k) (body_ninth s k) (count s k)

broken_ninth : {a : ℕ} → Ninth a → (a ≡ 0 → ⊥) → a ≡ 9
broken_ninth unbroken h = absurd (h refl)
broken_ninth ninth h = refl

-- late is 0 exactly if r is
pub record ZeroTogether (late r : ℕ) : Type 0 where
  pub whole : late ≡ 0 → r ≡ 0
  pub even : r ≡ 0 → late ≡ 0

-- THE INVARIANTS: no entry of a kind before kind k has broken a rule, nor one of kind k before entry i; `late` is 0 exactly if
-- none of their bodies has, and then z is where these end
pub record Walked (s : List ℕ) (k a z late : ℕ) : Type 0 where
  pub within : k ≤ kinds
  pub at : a ≡ base s k
  pub clean : first (entries_rule s) k ≡ 0
  pub broken : ZeroTogether late (first (bodies_rule s) k)
  pub ends : late ≡ 0 → z ≡ start_of s k
  pub near : z ≤ long * (64 * k + 1)

pub record Passed (s : List ℕ) (k n a l z late i : ℕ) : Type 0 where
  pub within : i ≤ n
  pub whole : n ≡ count s k
  pub few : n ≤ 64
  pub at : a ≡ place s k i
  pub clean : first (entry_rule s k) i ≡ 0
  pub broken : ZeroTogether late (or_else (first (bodies_rule s) k) (first (body_rule s k) i))
  pub last : l ≡ last_of k (floor s k i)
  pub ends : late ≡ 0 → z ≡ reached s k i
  pub near : z ≤ long * (64 * k + i + 1)

-- what is counted fits in 32 bits
module _ (s : List ℕ) where
  pub walk_begins : (z : ℕ) → Framed edition s → z ≡ contents s → Walked s 0 head.size z 0
  unfolding start_of
  walk_begins z f e =
      record {
        within = omega arith;
        at = refl;
        clean = first_none _;
        broken = record { whole = λ q. first_none _; even = λ q. refl };
        ends = λ q. e;
        near = omega (arith, f.rows);
      }

  module _ (k n a z late : ℕ) where
    last_none : last_of k 0 ≡ 0
    last_none = go k
      where
        go : (k : ℕ) → last_of k 0 ≡ 0
        go zero = refl
        go (suc zero) = refl
        go (suc (suc zero)) = refl
        go (suc (suc (suc k))) = refl

    pub pass_begins : Walked s k a z late → Counted s k n → Passed s k n a 0 z late 0
    unfolding floor reached
    pass_begins w m =
        record {
          within = omega arith;
          whole = m.is;
          few = m.few;
          at = omega (arith, w.at);
          clean = first_none _;
          broken = rw (first_none (body_rule s k), or_else_zero (first (bodies_rule s) k)) w.broken;
          last = sym last_none;
          ends = w.ends;
          near = omega (arith, w.near);
        }

    module _ (l i : ℕ) (h : Passed s k n a l z late i) where
      module _ (e : Step) (u : Steps s k i z late (Ok e)) where
        after : Next (last_of k (floor s k (i + 1))) late (offset_of k (entry s k i)) z (six_bits s k (entry s k i)) (length_of k (entry s k i)) (place s k (i + 1)) e
        after = u.is.next

        -- the body is judged against where the one before ended, as long as nothing is late
        now_late : ZeroTogether e.late (or_else (or_else (first (bodies_rule s) k) (first (body_rule s k) i)) (body_rule s k i))
        unfolding body_rule body_demands
        now_late =
            record {
              whole = λ y.
                  let m = after.kept.even y in
                  rw (h.broken.whole m.0) (all-unbroken (body_demands s k i) (rw (h.ends m.0) at m.1));
              even = λ y.
                  let o = h.broken.even (or_else_left before (body_rule s k i) y) in
                  after.kept.met o (rw (h.ends o) (met (body_demands s k i) tt (or_else_right before (body_rule s k i) y)));
            }
          where
            before : ℕ
            before = or_else (first (bodies_rule s) k) (first (body_rule s k) i)

        now_ends : e.late ≡ 0 → e.end ≡ reached s k (i + 1)
        unfolding reached body_end
        now_ends y =
            let m = after.kept.even y in
            rw (add-one i) (after.end ∙ ap (λ (x : ℕ). x + length_of k (entry s k i)) (sym m.1.0))

        pub pass_goes : i < n → Passed s k n e.at e.last e.end e.late (i + 1)
        unfolding entry_rule
        pass_goes hi =
            record {
              within = omega arith;
              whole = h.whole;
              few = h.few;
              at = after.at;
              clean = first_more _ _ h.clean (sym (told _ _ u.is.rule));
              broken = rw (first_suc (body_rule s k) i, ← or_else_assoc (first (bodies_rule s) k) (first (body_rule s k) i) (body_rule s k i)) now_late;
              last = after.last;
              ends = now_ends;
              near = omega (arith, h.near, after.end, after.short);
            }

      pub walk_goes : (a₀ z₀ late₀ : ℕ) → Walked s k a₀ z₀ late₀ → k < kinds → n ≤ i → Walked s (k + 1) a z late
      unfolding entries_rule bodies_rule start_of reached
      walk_goes a₀ z₀ late₀ w hk hi =
          let e : i ≡ n = omega (arith, h.within) in
          let c : i ≡ count s k = e ∙ h.whole in
          record {
            within = omega arith;
            at = rw (add-one k, ← c) h.at;
            clean = first_more _ _ w.clean (rw (← c) h.clean);
            broken = rw (first_suc (bodies_rule s) k, ← c) h.broken;
            ends = λ y. rw (add-one k, ← c) (h.ends y);
            near = omega (arith, h.near, h.few);
          }

-- all kinds say what those before the user regions say, and then these
all_kinds : (s : List ℕ) → first (entries_rule s) kinds ≡ or_else (first (entries_rule s) users) (entries_rule s users)
all_kinds s = first_suc (entries_rule s) users

-- where the walk leaves
module _ (s : List ℕ) (r : ℕ) where
  pub left_at : (k n a l z late i a₀ z₀ late₀ : ℕ) (f : Fault) → r ≡ or_else (entries_rule s users) (fault.number_of f) → Steps s k i z late (Err f)
      → Passed s k n a l z late i → Walked s k a₀ z₀ late₀ → k < kinds → i < n → r ≡ walk_rule s
  unfolding walk_rule rest_rule
  left_at k n a l z late i a₀ z₀ late₀ f t u v w hk hi = t ∙ go (first (entries_rule s) users) refl
    where
      x : ℕ
      x = fault.number_of f

      h : x ≡ 0 → ⊥
      h = some_fault f

      here : x ≡ entry_rule s k i
      here = unfold entry_rule in told _ _ u.is.rule

      kind : x ≡ entries_rule s k
      kind = unfold entries_rule in rw (← v.whole) (here ∙ first_stop (entry_rule s k) n i hi v.clean (λ y. h (here ∙ y)))

      all : x ≡ or_else (first (entries_rule s) users) (entries_rule s users)
      all = kind ∙ first_stop (entries_rule s) kinds k hk w.clean (λ y. h (kind ∙ y)) ∙ all_kinds s

      go : (f : ℕ) → first (entries_rule s) users ≡ f → or_else (entries_rule s users) x ≡ or_else (entries_rule s users) (or_else f (or_else (first (bodies_rule s) kinds) (breach (end_demands s))))
      go zero e =
          let y : x ≡ entries_rule s users = all ∙ rw e in
          let z : entries_rule s users ≡ 0 → ⊥ = λ o. h (y ∙ o) in
          or_else_some _ x z ∙ sym (or_else_some _ _ z)
      go (suc f) e = let y : x ≡ suc f = all ∙ rw e in rw y

  pub at_end : (k a z late : ℕ) → Walked s k a z late → kinds ≤ k → ((late ≡ 0 → ⊥) → r ≡ 9) × (late ≡ 0 → z ≡ start_of s kinds → Tells r (end_demands s)) → r ≡ walk_rule s
  unfolding walk_rule rest_rule
  at_end k a z late w h u = rw (or_else_right (first (entries_rule s) users) (entries_rule s users) none, or_else_left (first (entries_rule s) users) (entries_rule s users) none) (go (dec_lt 0 late))
    where
      q : k ≡ kinds
      q = omega (arith, w.within)

      none : or_else (first (entries_rule s) users) (entries_rule s users) ≡ 0
      none = sym (all_kinds s) ∙ (rw q at w.clean)

      b : ZeroTogether late (first (bodies_rule s) kinds)
      b = rw q at w.broken

      go : Dec (0 < late) → r ≡ or_else (first (bodies_rule s) kinds) (breach (end_demands s))
      go (no e) =
          let y : late ≡ 0 = omega arith in
          rw (b.whole y) (told _ _ (u.1 y (w.ends y ∙ ap (start_of s) q)))
      go (yes e) =
          let some : late ≡ 0 → ⊥ = λ x. omega arith in
          let nine : first (bodies_rule s) kinds ≡ 9 = broken_ninth (first_ninth (bodies_rule s) (bodies_ninth s) kinds) (λ x. some (b.even x)) in
          rw nine (u.0 some)

  pub in_frame : Tells r (frame_demands edition s) → (r ≡ 0 → ⊥) → r ≡ rule_of s
  unfolding rule_in
  in_frame t h = rw (← told _ _ t) (sym (or_else_some r _ h))

  pub in_zeros : (f : ℕ) → Tells f (frame_demands edition s) → f ≡ 0 → Tells r (zero_demands s) → (r ≡ 0 → ⊥) → r ≡ rule_of s
  unfolding rule_in
  in_zeros f t e u h = rw (← told _ _ t, e, ← told _ _ u) (sym (or_else_some r _ h))

  pub in_walk :
      (f z : ℕ) → Tells f (frame_demands edition s) → f ≡ 0 → Tells z (zero_demands s) → z ≡ 0 → r ≡ walk_rule s → r ≡ rule_of s
  unfolding rule_in
  in_walk f z t e u q w = rw (← told _ _ t, e, ← told _ _ u, q) w

-- THE INVARIANT of the loop over the user regions alone: none before this one has broken S6
pub record Ordered (s : List ℕ) (n a l i : ℕ) : Type 0 where
  pub within : i ≤ n
  pub whole : n ≡ count s users
  pub at : a ≡ place s users i
  pub clean : first (entry_rule s users) i ≡ 0
  pub last : l ≡ last_of users (floor s users i)

pub users_first : (s : List ℕ) (f x r : ℕ) → f ≡ entries_rule s users → (f ≡ 0 → ⊥) → r ≡ f → r ≡ or_else (entries_rule s users) x
users_first s f x r e h q = q ∙ rw (← e) (sym (or_else_some f x h))

module _ (s : List ℕ) (n : ℕ) where
  pub users_begin : (a : ℕ) → Counted s users n → OfKind a users (place s 0 0) (place s 1 0) (place s 2 0) (place s 3 0) → Ordered s n a 0 0
  unfolding floor
  users_begin a m o = record { within = omega arith; whole = m.is; at = o.user (omega arith); clean = first_none _; last = refl }

  module _ (a l i : ℕ) (h : Ordered s n a l i) where
    pub users_entry : Framed edition s → i < n → Entry s users i
    users_entry fr hi = record { framed = fr; kind = omega arith; below = omega (arith, h.whole) }

    pub users_go : (e : Step) → i < n → Steps s users i 0 0 (Ok e) → Ordered s n e.at e.last (i + 1)
    unfolding entry_rule
    users_go e hi u =
        let x = u.is.next in
        record { within = omega arith; whole = h.whole; at = x.at; clean = first_more _ _ h.clean (sym (told _ _ u.is.rule)); last = x.last }

    pub users_left : (f : Fault) → i < n → Steps s users i 0 0 (Err f) → fault.number_of f ≡ entries_rule s users
    users_left f hi u = unfold entries_rule in rw (← h.whole) (here ∙ first_stop (entry_rule s users) n i hi h.clean (λ x. some_fault f (here ∙ x)))
      where
        here : fault.number_of f ≡ entry_rule s users i
        here = unfold entry_rule in told _ _ u.is.rule

    pub users_end : n ≤ i → 0 ≡ entries_rule s users
    unfolding entries_rule
    users_end y = let e : i ≡ count s users = omega (arith, h.within, h.whole) in rw (← e) (sym h.clean)
