-- A STORE OVER TIME: it stays good, what is kept stays, and no number is given twice.
use Rattle.octets.proofs.Kit.{ℕ, ◌+◌, ◌≤◌, ◌<◌, ◌≡◌, refl, sym, ap, subst, ◌∙◌, Bool, true, false, cond, List, [], ◌∷◌, ℕ_discrete, arith, eqb, length, eq-eqb, ne_eqb, eqb-true}
use Rattle.octets.{specs.Octets.Octets, proofs.{Truths.never, Walks.by_test}}
use Rattle.sheet.specs.{Layout.◌of◌, Rules.Accepted}
use Rattle.versions.specs.{Store.{Version, Rising, next, Keeps, places, kept, has, body_of, is_kept}, Rules.Passes, Saving.{save_outcome, save_number, save_store}, Settings.settings_of}
use Rattle.versions.specs.{Removing.{without, remove_outcome, remove_store}, Due.is_removed, Sequence.{Change, saves, removes, changed, changed_all, Spares, AllSpare}}
use Rattle.versions.specs.Head as head
use Rattle.versions.proofs.{Forths.rising_low, promises.Keeping.{it_keeps, passes, keeps_these, keeps_last}, Grows.{and, grown}, Shrinks.shrunk}
use Rattle.versions.proofs.promises.{Dues.{save_free, remove_only, remove_told}, Untouched.refused_untouched}

-- a save that is carried out
pub record Carried (sheet s : List ℕ) (last : ℕ) (vs : List Version) : Type 0 where
  pub accepted : Accepted sheet
  pub number : save_number sheet s ≡ last + 1
  pub store : Keeps (save_store sheet s) (last + 1) (and vs (last + 1) (settings_of sheet))

module _ {s : List ℕ} {last : ℕ} {vs : List Version} (k : Keeps s last vs) where
  pub carried : (sheet : List ℕ) → save_outcome sheet s ≡ 0 → Carried sheet s last vs
  unfolding save_number save_store
  carried sheet e =
      let f = save_free sheet s e in
      let t : eqb (save_outcome sheet s) 0 ≡ true = eq-eqb (save_outcome sheet s) 0 e in
      let c : length (kept s) ≡ length vs = ap length (keeps_these k) in
      let low : last < 65535 = omega (arith, k.good.given, keeps_last k, f.number) in
      let few : length vs < places = omega (arith, k.good.few, c, f.place) in
      record {
        accepted = f.ready.accepted;
        number = rw (t, keeps_last k);
        store = rw t (grown k (settings_of sheet) (rw (keeps_these k) at f.room) low few);
      }

-- a remove that is carried out
pub record Taken (s : List ℕ) (x last : ℕ) (vs : List Version) : Type 0 where
  pub there : has x vs ≡ true
  pub store : Keeps (remove_store s x) last (without x vs)

module _ {s : List ℕ} {last : ℕ} {vs : List Version} (k : Keeps s last vs) (x : ℕ) where
  pub taken : remove_outcome s x ≡ 1 → Taken s x last vs
  unfolding remove_store is_kept
  taken e =
      let t : eqb (remove_outcome s x) 1 ≡ true = eq-eqb (remove_outcome s x) 1 e in
      record { there = ap (has x) (sym (keeps_these k)) ∙ (remove_told s x e).1; store = rw t (shrunk k x) }

  -- what is kept can be removed
  pub can_take : has x vs ≡ true → remove_outcome s x ≡ 1
  unfolding is_kept
  can_take h = sym (remove_only s x 1 _ (is_removed (passes k) (ap (has x) (keeps_these k) ∙ h))).0

-- KEPT AFTER SAVE: every kept version keeps number and content, and the new one stands behind them with what the sheet's properties are
pub kept_after_save :
    (sheet s : List ℕ) → Octets s → save_outcome sheet s ≡ 0 → kept (save_store sheet s) ≡ and (kept s) (save_number sheet s) (settings_of sheet)
kept_after_save sheet s b e =
    let r = carried (it_keeps s b (save_free sheet s e).ready.good) sheet e in
    keeps_these r.store ∙ ap (λ (n : ℕ). and (kept s) n (settings_of sheet)) (sym r.number)

-- a good store that has given at least these numbers
pub record Given (n : ℕ) (s : List ℕ) : Type 0 where
  pub last : ℕ
  pub versions : List Version
  pub keeps : Keeps s last versions
  pub least : n ≤ last

one_given : (n : ℕ) (c : Change) (s : List ℕ) → Given n s → Given n (changed c s)
unfolding changed
one_given n (saves sheet) s h = go (ℕ_discrete (save_outcome sheet s) 0)
  where
    go : Dec (save_outcome sheet s ≡ 0) → Given n (save_store sheet s)
    go (yes e) =
        let r = carried h.keeps sheet e in
        record { last = h.last + 1; versions = and h.versions (h.last + 1) (settings_of sheet); keeps = r.store; least = omega (arith, h.least) }
    go (no e) = subst (Given n) (sym ((refused_untouched sheet s).store e)) h
one_given n (removes x) s h = go (ℕ_discrete (remove_outcome s x) 1)
  where
    go : Dec (remove_outcome s x ≡ 1) → Given n (remove_store s x)
    go (yes e) = record { last = h.last; versions = without x h.versions; keeps = (taken h.keeps x e).store; least = h.least }
    go (no e) = subst (Given n) (sym ((refused_untouched [] s).left x e)) h

pub all_given : (n : ℕ) (cs : List Change) (s : List ℕ) → Given n s → Given n (changed_all cs s)
unfolding changed_all
all_given n [] s h = h
all_given n (c ∷ cs) s h = all_given n cs (changed c s) (one_given n c s h)

-- GOOD STAYS GOOD, over any sequence of calls
pub good_stays : (cs : List Change) (s : List ℕ) → Octets s → Passes s → Passes (changed_all cs s)
good_stays cs s b ok =
    passes (all_given 0 cs s (record { last = head.last of s; versions = kept s; keeps = it_keeps s b ok; least = omega arith })).keeps

-- NEVER AGAIN: a save after another, whatever came between, gives a larger number
pub never_again :
    (s : List ℕ) → Octets s → (sheet : List ℕ) → save_outcome sheet s ≡ 0 → (cs : List Change) (sheet' : List ℕ) →
    save_outcome sheet' (changed_all cs (save_store sheet s)) ≡ 0 → save_number sheet s < save_number sheet' (changed_all cs (save_store sheet s))
never_again s b sheet e cs sheet' f =
    let last : ℕ = head.last of s in
    let r = carried (it_keeps s b (save_free sheet s e).ready.good) sheet e in
    let g = all_given (last + 1) cs (save_store sheet s) (record { last = last + 1; versions = and (kept s) (last + 1) (settings_of sheet); keeps = r.store; least = omega arith }) in
    let q = carried g.keeps sheet' f in
    omega (arith, r.number, q.number, g.least)

-- what a list of versions has and holds, after one more and after one less
module _ (x : ℕ) where
  pub has_more : (vs : List Version) (y : ℕ) (d : List ℕ) → has x vs ≡ true → (has x (and vs y d) ≡ true) × (body_of x (and vs y d) ≡ body_of x vs)
  unfolding has body_of
  has_more [] y d h = never h
  has_more (v ∷ vs) y d h = go (eqb v.number x) (λ e. has_more vs y d e) h
    where
      go :
          (t : Bool) → (has x vs ≡ true → (has x (and vs y d) ≡ true) × (body_of x (and vs y d) ≡ body_of x vs)) → cond t true (has x vs) ≡ true →
          (cond t true (has x (and vs y d)) ≡ true) × (cond t v.body (body_of x (and vs y d)) ≡ cond t v.body (body_of x vs))
      go true ih e = (refl, refl)
      go false ih e = ih e

  pub has_new : (vs : List Version) (d : List ℕ) → has x vs ≡ false → (has x (and vs x d) ≡ true) × (body_of x (and vs x d) ≡ d)
  unfolding has body_of
  has_new [] d h = let t : eqb x x ≡ true = eq-eqb x x refl in rw t (refl, refl)
  has_new (v ∷ vs) d h = go (eqb v.number x) (λ e. has_new vs d e) h
    where
      go :
          (t : Bool) → (has x vs ≡ false → (has x (and vs x d) ≡ true) × (body_of x (and vs x d) ≡ d)) → cond t true (has x vs) ≡ false →
          (cond t true (has x (and vs x d)) ≡ true) × (cond t v.body (body_of x (and vs x d)) ≡ d)
      go true ih e = never (sym e)
      go false ih e = ih e

  -- a number above the last one is not kept
  pub has_none : {last floor : ℕ} (vs : List Version) → last < x → Rising last floor vs → has x vs ≡ false
  unfolding has
  has_none [] h r = refl
  has_none {last = last} {floor = floor} (v ∷ vs) h (next f r) =
      let l = rising_low r in
      let t : eqb v.number x ≡ false = ne_eqb v.number x (λ e. omega arith) in
      rw t (has_none {last = last} {floor = v.number + 1} vs h r)

  pub has_less : (vs : List Version) (y : ℕ) → (y ≡ x → ⊥) → (has x (without y vs) ≡ has x vs) × (body_of x (without y vs) ≡ body_of x vs)
  unfolding has body_of without
  has_less [] y n = (refl, refl)
  has_less (v ∷ vs) y n =
      by_test (λ (ws : List Version). (has x ws ≡ has x (v ∷ vs)) × (body_of x ws ≡ body_of x (v ∷ vs))) (eqb v.number y) vs (v ∷ without y vs)
      (λ e.
      let t : eqb v.number x ≡ false = ne_eqb v.number x (λ q. n (sym (eqb-true v.number y e) ∙ q)) in
      rw t (refl, refl))
      (λ e. let ih = has_less vs y n in rw (ih.0, ih.1) (refl, refl))

-- a version is kept, with this body
pub record Stays (x : ℕ) (d : List ℕ) (s : List ℕ) : Type 0 where
  pub last : ℕ
  pub versions : List Version
  pub keeps : Keeps s last versions
  pub there : has x versions ≡ true
  pub body : body_of x versions ≡ d

one_stays : (x : ℕ) (d : List ℕ) (c : Change) (s : List ℕ) → Spares x c → Stays x d s → Stays x d (changed c s)
unfolding changed
one_stays x d (saves sheet) s p h = go (ℕ_discrete (save_outcome sheet s) 0)
  where
    go : Dec (save_outcome sheet s ≡ 0) → Stays x d (save_store sheet s)
    go (yes e) =
        let r = carried h.keeps sheet e in
        let m = has_more x h.versions (h.last + 1) (settings_of sheet) h.there in
        record { last = h.last + 1; versions = and h.versions (h.last + 1) (settings_of sheet); keeps = r.store; there = m.0; body = m.1 ∙ h.body }
    go (no e) = subst (Stays x d) (sym ((refused_untouched sheet s).store e)) h
one_stays x d (removes y) s n h = go (ℕ_discrete (remove_outcome s y) 1)
  where
    go : Dec (remove_outcome s y ≡ 1) → Stays x d (remove_store s y)
    go (yes e) =
        let m = has_less x h.versions y n in
        record { last = h.last; versions = without y h.versions; keeps = (taken h.keeps y e).store; there = m.0 ∙ h.there; body = m.1 ∙ h.body }
    go (no e) = subst (Stays x d) (sym ((refused_untouched [] s).left y e)) h

-- WHAT IS KEPT STAYS until it is removed
pub kept_stays : (x : ℕ) (d : List ℕ) (cs : List Change) (s : List ℕ) → AllSpare x cs → Stays x d s → Stays x d (changed_all cs s)
unfolding changed_all AllSpare
kept_stays x d [] s p h = h
kept_stays x d (c ∷ cs) s p h = kept_stays x d cs (changed c s) p.1 (one_stays x d c s p.0 h)
