-- A VERSION REMOVED: it is gone for good, the others stay, and its room comes back.
use Rattle.octets.proofs.Kit.{ℕ, suc, ◌+◌, ◌≤◌, ◌<◌, ◌≡◌, refl, sym, ap, subst, ◌∙◌, Bool, true, false, cond, List, [], ◌∷◌, ◌++◌, ℕ_discrete, dec_lt, arith, eqb, length, length-append}
use Rattle.octets.proofs.Kit.{eq-eqb, ne_eqb, eqb-true}
use Rattle.octets.{specs.Octets.Octets, proofs.{Truths.never, Walks.by_test}}
use Rattle.sheet.specs.Layout.{◌of◌}
use Rattle.versions.specs.{Store.{Version, Rising, next, Keeps, bodies_of, kept, has, body_of, is_kept, version_in}, Saving.{needed, no_room, save_outcome, save_number, save_store}}
use Rattle.versions.specs.{Settings.settings_of, Removing.{without, remove_outcome, remove_store}, Sequence.{Change, saves, removes, changed, changed_all}}
use Rattle.versions.specs.Head as head
use Rattle.versions.proofs.{Laid.laid_long, promises.Keeping.{it_keeps, keeps_these, keeps_last, whole}, Grows.and, Shrinks.removed_long}
use Rattle.versions.proofs.promises.{Dues.{save_free, save_tight, remove_told}, Untouched.refused_untouched, Sequences.{carried, taken, can_take, has_none, has_new}}

-- a list without a number
module _ (x : ℕ) where
  -- numbers that begin above it
  has_below : {last floor : ℕ} (vs : List Version) → x < floor → Rising last floor vs → has x vs ≡ false
  unfolding has
  has_below [] h r = refl
  has_below {last = last} {floor = floor} (v ∷ vs) h (next f r) =
      let t : eqb v.number x ≡ false = ne_eqb v.number x (λ e. omega arith) in
      rw t (has_below {last = last} {floor = v.number + 1} vs (omega arith) r)

  has_gone : {last floor : ℕ} (vs : List Version) → Rising last floor vs → has x (without x vs) ≡ false
  unfolding has without
  has_gone [] r = refl
  has_gone {last = last} {floor = floor} (v ∷ vs) (next f r) =
      by_test (λ (ws : List Version). has x ws ≡ false) (eqb v.number x) vs (v ∷ without x vs)
      (λ e. has_below vs (omega (arith, eqb-true v.number x e)) r)
      (λ e. rw e (has_gone {last = last} {floor = v.number + 1} vs r))

  without_new : (vs : List Version) (d : List ℕ) → has x vs ≡ false → without x (and vs x d) ≡ vs
  unfolding has without
  without_new [] d h = let t : eqb x x ≡ true = eq-eqb x x refl in rw t
  without_new (v ∷ vs) d h = go (eqb v.number x) (λ e. without_new vs d e) h
    where
      go : (t : Bool) → (has x vs ≡ false → without x (and vs x d) ≡ vs) → cond t true (has x vs) ≡ false → cond t (and vs x d) (v ∷ without x (and vs x d)) ≡ v ∷ vs
      go true ih e = never (sym e)
      go false ih e = ap (λ (l : List Version). v ∷ l) (ih e)

  has_another : (vs : List Version) (y : ℕ) (d : List ℕ) → (y ≡ x → ⊥) → has x vs ≡ false → has x (and vs y d) ≡ false
  unfolding has
  has_another [] y d n h = let t : eqb y x ≡ false = ne_eqb y x n in rw t
  has_another (v ∷ vs) y d n h = go (eqb v.number x) (λ e. has_another vs y d n e) h
    where
      go : (t : Bool) → (has x vs ≡ false → has x (and vs y d) ≡ false) → cond t true (has x vs) ≡ false → cond t true (has x (and vs y d)) ≡ false
      go true ih e = never (sym e)
      go false ih e = ih e

  has_fewer : (vs : List Version) (y : ℕ) → has x vs ≡ false → has x (without y vs) ≡ false
  unfolding has without
  has_fewer [] y h = refl
  has_fewer (v ∷ vs) y h =
      by_test (λ (ws : List Version). has x ws ≡ false) (eqb v.number y) vs (v ∷ without y vs)
      (λ e. tail (eqb v.number x) h)
      (λ e. both (eqb v.number x) h (has_fewer vs y (tail (eqb v.number x) h)))
    where
      tail : (t : Bool) → cond t true (has x vs) ≡ false → has x vs ≡ false
      tail true e = never (sym e)
      tail false e = e

      both : (t : Bool) → cond t true (has x vs) ≡ false → has x (without y vs) ≡ false → cond t true (has x (without y vs)) ≡ false
      both true e f = never (sym e)
      both false e f = f

  -- how much less it takes
  less_bodies :
      (vs : List Version) → has x vs ≡ true →
      (length vs ≡ length (without x vs) + 1) × (length (bodies_of vs) ≡ length (bodies_of (without x vs)) + length (body_of x vs))
  unfolding has without body_of bodies_of
  less_bodies [] h = never h
  less_bodies (v ∷ vs) h = go (eqb v.number x) (λ e. less_bodies vs e) h
    where
      go :
          (t : Bool) →
          (has x vs ≡ true → (length vs ≡ length (without x vs) + 1) × (length (bodies_of vs) ≡ length (bodies_of (without x vs)) + length (body_of x vs))) →
          cond t true (has x vs) ≡ true →
          (suc (length vs) ≡ length (cond t vs (v ∷ without x vs)) + 1)
          × (length (v.body ++ bodies_of vs) ≡ length (bodies_of (cond t vs (v ∷ without x vs))) + length (cond t v.body (body_of x vs)))
      go true ih e = (omega arith, length-append v.body (bodies_of vs) ∙ omega arith)
      go false ih e =
          (omega (arith, (ih e).0), length-append v.body (bodies_of vs) ∙ omega (arith, (ih e).1, length-append v.body (bodies_of (without x vs))))

-- a good store that has given a number and keeps it no more
record Gone (x : ℕ) (s : List ℕ) : Type 0 where
  pub last : ℕ
  pub versions : List Version
  pub keeps : Keeps s last versions
  pub given : x ≤ last
  pub away : has x versions ≡ false

one_gone : (x : ℕ) (c : Change) (s : List ℕ) → Gone x s → Gone x (changed c s)
unfolding changed
one_gone x (saves sheet) s h = go (ℕ_discrete (save_outcome sheet s) 0)
  where
    go : Dec (save_outcome sheet s ≡ 0) → Gone x (save_store sheet s)
    go (yes e) =
        let r = carried h.keeps sheet e in
        record {
          last = h.last + 1;
          versions = and h.versions (h.last + 1) (settings_of sheet);
          keeps = r.store;
          given = omega (arith, h.given);
          away = has_another x h.versions (h.last + 1) (settings_of sheet) (λ q. omega (arith, h.given)) h.away;
        }
    go (no e) = subst (Gone x) (sym ((refused_untouched sheet s).store e)) h
one_gone x (removes y) s h = go (ℕ_discrete (remove_outcome s y) 1)
  where
    go : Dec (remove_outcome s y ≡ 1) → Gone x (remove_store s y)
    go (yes e) =
        record {
          last = h.last;
          versions = without y h.versions;
          keeps = (taken h.keeps y e).store;
          given = h.given;
          away = has_fewer x h.versions y h.away;
        }
    go (no e) = subst (Gone x) (sym ((refused_untouched [] s).left y e)) h

all_gone : (x : ℕ) (cs : List Change) (s : List ℕ) → Gone x s → Gone x (changed_all cs s)
unfolding changed_all
all_gone x [] s h = h
all_gone x (c ∷ cs) s h = all_gone x cs (changed c s) (one_gone x c s h)

-- A version with number x removed from s
module _ (s : List ℕ) (b : Octets s) (x : ℕ) (e : remove_outcome s x ≡ 1) where
  k : Keeps s (head.last of s) (kept s)
  k = it_keeps s b (remove_told s x e).0

  keeps : Keeps (remove_store s x) (head.last of s) (without x (kept s))
  keeps = (taken k x e).store

  there : has x (kept s) ≡ true
  there = (taken k x e).there

  low : x ≤ head.last of s
  low = go (dec_lt (head.last of s) x)
    where
      go : Dec (head.last of s < x) → x ≤ head.last of s
      go (yes h) = never (sym (has_none x (kept s) h k.good.rising) ∙ there)
      go (no h) = omega arith

  -- the buffer is as long as before
  same_room : length (remove_store s x) ≡ length s
  unfolding remove_store
  same_room = let t : eqb (remove_outcome s x) 1 ≡ true = eq-eqb (remove_outcome s x) 1 e in rw t (removed_long k x)

  -- OTHERS STAY: every other version has its number and content, in the same order; and so has the last number given
  pub others_stay : (kept (remove_store s x) ≡ without x (kept s)) × (head.last of remove_store s x ≡ head.last of s)
  others_stay = (keeps_these keeps, keeps_last keeps)

  -- REMOVED, GONE: the number is kept no more, whatever comes after, and never given again
  pub removed_gone : (cs : List Change) → is_kept (changed_all cs (remove_store s x)) x ≡ false
  unfolding is_kept
  removed_gone cs =
      let g = all_gone x cs (remove_store s x) (record { last = head.last of s; versions = without x (kept s); keeps = keeps; given = low; away = has_gone x (kept s) k.good.rising }) in
      ap (has x) (keeps_these g.keeps) ∙ g.away

  pub not_given_again : (cs : List Change) (sheet : List ℕ) → save_outcome sheet (changed_all cs (remove_store s x)) ≡ 0 → x < save_number sheet (changed_all cs (remove_store s x))
  not_given_again cs sheet f =
      let g = all_gone x cs (remove_store s x) (record { last = head.last of s; versions = without x (kept s); keeps = keeps; given = low; away = has_gone x (kept s) k.good.rising }) in
      omega (arith, (carried g.keeps sheet f).number, g.given)

  -- ROOM COMES BACK: a save needs less by the row and the body that are gone
  pub room_back : (d : List ℕ) → needed (kept s) d ≡ needed (kept (remove_store s x)) d + (8 + length (version_in s x))
  unfolding version_in
  room_back d = let l = less_bodies x (kept s) there in rw (keeps_these keeps) (omega (arith, l.0, l.1))

  -- so a save that needs at most that is not refused for room
  pub fits_again : (sheet : List ℕ) → length (settings_of sheet) ≤ length (version_in s x) → save_outcome sheet (remove_store s x) ≡ no_room → ⊥
  fits_again sheet h f =
      let tight = save_tight sheet (remove_store s x) f in
      omega (arith, tight, room_back (settings_of sheet), same_room, whole k, laid_long (head.last of s) (kept s))

-- SAVE, REMOVE: saving and at once removing leaves the kept versions as they were, the last number apart
pub save_remove :
    (s : List ℕ) → Octets s → (sheet : List ℕ) → save_outcome sheet s ≡ 0 →
    (remove_outcome (save_store sheet s) (save_number sheet s) ≡ 1)
    × (kept (remove_store (save_store sheet s) (save_number sheet s)) ≡ kept s)
    × (head.last of remove_store (save_store sheet s) (save_number sheet s) ≡ save_number sheet s)
save_remove s b sheet e =
    let n : ℕ = head.last of s + 1 in
    let d : List ℕ = settings_of sheet in
    let k = it_keeps s b (save_free sheet s e).ready.good in
    let r = carried k sheet e in
    let new : has n (kept s) ≡ false = has_none n (kept s) (omega arith) k.good.rising in
    let out : remove_outcome (save_store sheet s) n ≡ 1 = can_take r.store n (has_new n (kept s) d new).0 in
    let t = taken r.store n out in
    rw r.number (out, keeps_these t.store ∙ without_new n (kept s) d new, keeps_last t.store)
