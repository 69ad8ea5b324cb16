-- The walk over a trace's table, and what an accepted trace has. Assumes nothing.
use Rattle.std.specs.Prelude.{Ok, Err}
use Rattle.octets.proofs.Kit.{ℕ, ◌+◌, ◌-◌, ◌≤◌, ◌<◌, ◌≡◌, refl, sym, ◌∙◌, ap, subst, List, length, take, drop, length-take, length-drop, add-sub_cancel_left, add-one, arith}
use Rattle.sheet.{specs.{Demand.{Tells, Met, breach}, First.first, Layout.◌of◌}, proofs.rules.Demands.{told, met}}
use Rattle.sheet.proofs.rules.First.{or_else_some, or_else_left, or_else_right, first_none, first_more, first_stop, first_each}
use Rattle.playback.specs.{Trace.{head, count, place, entry_of}, Rules.{reached, head_demands, event_demands, end_demands, head_rule, event_rule, walk_rule, refusal_of, Playable}}
use Rattle.playback.specs.{Refusal.number_of, Walk.{Inside, Shown, Judges}, declared.refusal.Refusal.Refusal}
use Rattle.playback.specs.Entry as entry
use Rattle.playback.proofs.Refused.{never_none}

pub length_entry : {t : List ℕ} {i : ℕ} → Inside t i → length (entry_of t i) ≡ entry.size
unfolding entry_of
length_entry h = simp (length-take, length-drop) (omega (arith, h.fits))

-- the part that code cuts out
pub shown : {t : List ℕ} {i a z : ℕ} → Inside t i → a ≡ place i → z ≡ a + entry.size → Shown t i (take (z - a) (drop a t))
unfolding entry_of
shown {t} {i} h ea ez =
    rw (ez, add-sub_cancel_left, ea) record { is = refl; long = length_entry h }

-- what the first rules say
pub headed : (t : List ℕ) → head_rule t ≡ 0 → Met (head_demands t)
unfolding head_rule
headed t e = met (head_demands t) tt e

pub head_long : (t : List ℕ) → head_rule t ≡ 0 → head ≤ length t
head_long t e = (headed t e).0

-- an event judged
module _ (t : List ℕ) (i z : ℕ) (e : List ℕ) (is : Shown t i e) where
  pub judged_out : (r : Refusal) → Tells (number_of r) (event_demands z (length t) e) → Judges t i z (Err r)
  judged_out r h = told _ _ h ∙ ap (λ (x : List ℕ). breach (event_demands z (length t) x)) is.is

  pub judged_in : (l : ℕ) → Tells 0 (event_demands z (length t) e) → l ≡ entry.length of e → Judges t i z (Ok (z + l))
  judged_in l h q =
      let m = met (event_demands z (length t) e) tt (sym (told _ _ h)) in (
        sym (told _ _ h ∙ ap (λ (x : List ℕ). breach (event_demands z (length t) x)) is.is),
        ap (λ (x : ℕ). z + x) (q ∙ ap (λ (x : List ℕ). entry.length of x) is.is),
        omega (arith, m.1.1.1.1.0, q),
      )

-- THE INVARIANT: no event before event i has broken a rule, and its APDU is to begin at z
pub record Walked (t : List ℕ) (n i z : ℕ) : Type 0 where
  pub within : i ≤ n
  pub whole : n ≡ count t
  pub at : z ≡ reached t i
  pub inside : z ≤ length t
  pub clean : first (event_rule t) i ≡ 0

module _ (t : List ℕ) (h : head_rule t ≡ 0) where
  pub walk_begins : (n z : ℕ) → n ≡ count t → z ≡ place n → Walked t n 0 z
  unfolding reached
  walk_begins n z e q =
      record { within = omega arith; whole = e; at = q ∙ ap place e; inside = omega (arith, (headed t h).1.1.0); clean = first_none _ }

  module _ (n i z : ℕ) (w : Walked t n i z) where
    pub walk_inside : i < n → Inside t i
    walk_inside b = record { few = omega (arith, w.whole, (headed t h).1.0); fits = omega (arith, w.whole, (headed t h).1.1.0) }

    module _ (b : i < n) where
      here : breach (event_demands z (length t) (entry_of t i)) ≡ event_rule t i
      unfolding event_rule
      here = ap (λ (x : ℕ). breach (event_demands x (length t) (entry_of t i))) w.at

      pub walk_goes : (k : ℕ) → Judges t i z (Ok k) → Walked t n (i + 1) k
      unfolding reached
      walk_goes k u =
          record {
            within = omega arith;
            whole = w.whole;
            at = rw (add-one i) (u.1 ∙ ap (λ (x : ℕ). x + entry.length of entry_of t i) w.at);
            inside = u.2;
            clean = first_more _ _ w.clean (sym here ∙ u.0);
          }

      pub walk_left : (r : Refusal) → Judges t i z (Err r) → number_of r ≡ walk_rule t
      unfolding walk_rule
      walk_left r u =
          let x : number_of r ≡ event_rule t i = u ∙ here in
          let e : number_of r ≡ first (event_rule t) (count t) =
          rw (← w.whole) (x ∙ first_stop (event_rule t) n i b w.clean (λ y. never_none r (x ∙ y))) in
          rw (← e) (sym (or_else_some (number_of r) (breach (end_demands t)) (never_none r)))

    pub walk_ends : (r : ℕ) → n ≤ i → Tells r (end_demands t) → r ≡ walk_rule t
    unfolding walk_rule
    walk_ends r y v =
        let e : i ≡ count t = omega (arith, w.within, w.whole) in
        let c : first (event_rule t) (count t) ≡ 0 = subst (λ (x : ℕ). first (event_rule t) x ≡ 0) e w.clean in
        rw c (told r (end_demands t) v)

    at_end : n ≤ i → z ≡ reached t (count t)
    at_end y = let e : i ≡ count t = omega (arith, w.within, w.whole) in w.at ∙ ap (reached t) e

    pub walk_yes : n ≤ i → z ≡ length t → 0 ≡ walk_rule t
    walk_yes y q = walk_ends 0 y ((λ f. absurd (f (sym (at_end y) ∙ q))), λ _. refl)

    pub walk_no : n ≤ i → (z ≡ length t → ⊥) → 58 ≡ walk_rule t
    walk_no y q = walk_ends 58 y ((λ f. refl), λ e. absurd (q (at_end y ∙ e)))

-- the first rules and the walk
pub head_broken : (t : List ℕ) (f : ℕ) → Tells f (head_demands t) → (f ≡ 0 → ⊥) → f ≡ refusal_of t
unfolding refusal_of head_rule
head_broken t f h n = let e : f ≡ breach (head_demands t) = told f (head_demands t) h in rw (← e) (sym (or_else_some f (walk_rule t) n))

pub head_kept : (t : List ℕ) (f : ℕ) → Tells f (head_demands t) → f ≡ 0 → head_rule t ≡ 0
unfolding head_rule
head_kept t f h e = sym (told _ _ h) ∙ e

pub walk_told : (t : List ℕ) (f r : ℕ) → Tells f (head_demands t) → f ≡ 0 → r ≡ walk_rule t → r ≡ refusal_of t
unfolding refusal_of
walk_told t f r h e q = rw (head_kept t f h e) q

-- AN ACCEPTED TRACE
module _ (t : List ℕ) (g : Playable t) where
  pub good_head : head_rule t ≡ 0
  unfolding refusal_of
  good_head = or_else_left (head_rule t) (walk_rule t) g

  pub good_rows : Met (head_demands t)
  good_rows = headed t good_head

  good_walk : walk_rule t ≡ 0
  unfolding refusal_of
  good_walk = or_else_right (head_rule t) (walk_rule t) g

  pub good_event : (i : ℕ) → i < count t → Met (event_demands (reached t i) (length t) (entry_of t i))
  unfolding walk_rule event_rule
  good_event i b =
      met (event_demands (reached t i) (length t) (entry_of t i)) tt (first_each (event_rule t) (count t) i (or_else_left _ _ good_walk) b)

  pub good_inside : (i : ℕ) → i < count t → Inside t i
  good_inside i b = record { few = omega (arith, good_rows.1.0); fits = omega (arith, good_rows.1.1.0) }
