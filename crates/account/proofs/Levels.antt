-- Who gave a connection its level: below 3, an offer of the key of that level. Assumes nothing.
use Rattle.octets.proofs.Kit.{ℕ, ◌<◌, ◌≡◌, refl, sym, ap, subst, ◌∙◌, ◌⊎◌, inl, inr, Bool, true, false, cond, List, ◌∷◌, eqb, arith, eqb-true}
use Rattle.sheet.specs.Head.{rules_of}
use Rattle.events.specs.Events.{Event, connect, disconnect, button, request, restore}
use Rattle.history.specs.{Wish.{Wish, change, offer_key, restart, other, nothing, asks}, Permit.heard, History.{First, opened, level, keys, offered}}
use Rattle.history.specs.Keeps.{Device, state_after, AllOctets, Keeps}
use Rattle.account.specs.Account.{Origin, at, level_on, last_other, Last, Offers, offers, Entitled, at_first, by_key, LevelsAccounted}
use Rattle.account.specs.Account as account
use Rattle.account.proofs.Lasts.{before_it, event_in, either, is_last, as_at_first, all_dropped}

at_three : 3 < 3 → ⊥
at_three z = omega (arith, z)

-- a request that is heard and leaves another level, below 3, offers the key of it
pub record Offer (now : ℕ → ℕ) (own t : Bool) (w : Wish) (l : ℕ) : Type 0 where
  pub heard_it : t ≡ true
  pub own_it : own ≡ true
  pub wish : w ≡ offer_key (now l)

hit :
    (now : ℕ → ℕ) (n : ℕ) (a b c : Bool) → (a ≡ true → n ≡ now 0) → (b ≡ true → n ≡ now 1) → (c ≡ true → n ≡ now 2) →
    cond a 0 (cond b 1 (cond c 2 3)) < 3 → n ≡ now (cond a 0 (cond b 1 (cond c 2 3)))
hit now n true b c p q r h = p refl
hit now n false true c p q r h = q refl
hit now n false false true p q r h = r refl
hit now n false false false p q r h = absurd (at_three h)

offer :
    (now : ℕ → ℕ) (own t : Bool) (old : ℕ) (w : Wish) → (cond t (offered now own old w) old ≡ old → ⊥) → cond t (offered now own old w) old < 3 →
    Offer now own t w (cond t (offered now own old w) old)
offer now own false old w e h = absurd (e refl)
offer now own true old (change c) e h = absurd (e refl)
offer now false true old (offer_key n) e h = absurd (e refl)
offer now true true old (offer_key n) e h =
    record {
      heard_it = refl;
      own_it = refl;
      wish = ap offer_key (hit now n (eqb n (now 0)) (eqb n (now 1)) (eqb n (now 2)) (eqb-true n (now 0)) (eqb-true n (now 1)) (eqb-true n (now 2)) h);
    }
offer now own true old restart e h = absurd (at_three h)
offer now own true old (other o) e h = absurd (e refl)
offer now own true old nothing e h = absurd (e refl)

reset : (t : Bool) (old : ℕ) → (cond t 3 old ≡ old → ⊥) → cond t 3 old < 3 → ⊥
reset true old e h = at_three h
reset false old e h = e refl

module _ (f : First) where
  offered_it :
      (h : List Event) (c : ℕ) (e : Event) → (level f (e ∷ h) c ≡ level f h c → ⊥) → level f (e ∷ h) c < 3 →
      Offers f h (level f (e ∷ h) c) c e
  unfolding level keys
  offered_it h c (connect d) n l = absurd (reset (eqb c d) (level f h c) n l)
  offered_it h c (disconnect d) n l = absurd (reset (eqb c d) (level f h c) n l)
  offered_it h c (button on) n l = absurd (n refl)
  offered_it h c (restore d k st) n l = absurd (n refl)
  offered_it h c (request mode d g a out) n l =
      let t : Bool = heard (rules_of f.sheet) (opened f h d) mode a out (asks a) in
      let m : ℕ = cond t (offered (keys f h) (eqb c d) (level f h c) (asks a)) (level f h c) in
      let o = offer (keys f h) (eqb c d) t (level f h c) (asks a) n l in
      let z : c ≡ d = eqb-true c d o.own_it in
      subst (λ (i : ℕ). Offers f h m c (request mode i g a out)) z
      (offers (subst (λ (i : ℕ). heard (rules_of f.sheet) (opened f h i) mode a out (asks a) ≡ true) (sym z) o.heard_it) o.wish)

-- OF ANY DEVICE THAT KEEPS DEMAND 3
pub levels_any : (step : Device) → Keeps step → LevelsAccounted step
unfolding state_after
levels_any step keep f h b k c l = go (either step f (level_on c) o)
  where
    o : Origin
    o = last_other step f (level_on c) h

    Level : List Event → ℕ
    Level g = level_on c (state_after step f g)

    gave : (before : List Event) (e : Event) → Last step f (level_on c) h before e → Offers f before (Level h) c e
    gave before e x =
        let all = subst AllOctets x.within (all_dropped x.later h k) in
        let now = (keep f (e ∷ before) b all).rights c in
        let was = (keep f before b all.1).rights c in
        let is = x.since 0 (omega arith) ∙ now in
        subst (λ (i : ℕ). Offers f before i c e) (sym is)
        (offered_it f before c e (λ z. x.another (now ∙ z ∙ sym was)) (subst (λ (i : ℕ). i < 3) is l))

    go : (o ≡ account.never) ⊎ (o ≡ at (before_it o) (event_in o)) → Entitled step f h c o
    go (inl e) = subst (λ (u : Origin). Entitled step f h c u) (sym e) (at_first (as_at_first step f (level_on c) h e 0))
    go (inr e) =
        let x = is_last step f (level_on c) h (before_it o) (event_in o) e in
        subst (λ (u : Origin). Entitled step f h c u) (sym e) (by_key (before_it o) (event_in o) x (gave (before_it o) (event_in o) x))
