-- WHAT A REQUEST SAYS THAT IT STORED: every byte outside is as found, and a refused request has stored nothing.
use Rattle.octets.proofs.Kit.{ℕ, ◌+◌, ◌≤◌, ◌<◌, ◌≡◌, refl, sym, ap, subst, ◌∙◌, List, ◌⊎◌, length, get_or, replicate, length-replicate, arith}
use Rattle.octets.{specs.{Bytes.bytes_of, Splice.splice}, proofs.{Numbers.length_bytes, Splices.splice_outside}}
use Rattle.pdu.specs.Read.{read_pdu}
use Rattle.judge.specs.{Judge.{data_in, judge_of}, declared.{Store.Store, Decision.Decision}}
use Rattle.judge.specs.declared.Store.TheVariants as store
use Rattle.device.specs.{Carry.{padded, build, bit_at, store_of}, Safe.{StoreSafe, Safe}, Step.{step_by, step_of}, Sessions.session_for, Events.request_of}
use Rattle.device.specs.{Changed.{part_of, changes_of, changed_of, Requested, Outside, none}, declared.{Sessions.Sessions, Changed.Changed, Run.Run, Made.Made}}
use Rattle.device.proofs.{leaves.{Bits.length_build, Stores.{length_padded, length_store}}, calls.Safe.safe, due.Shapes.{Shape, refuse, deny, reply, done, restart, shape}}

-- a byte outside one run
abbrev Apart : Run → ℕ → Type 0
Apart p i = (i < p.offset) ⊎ (p.offset + p.length ≤ i)

spliced :
    (s : List ℕ) (at : ℕ) (ds : List ℕ) (n : ℕ) → length ds ≡ n → at + n ≤ length s → (i : ℕ) → (i < at) ⊎ (at + n ≤ i) →
    get_or (splice s at ds) i 0 ≡ get_or s i 0
spliced s at ds n e h i o = splice_outside s at ds (omega (arith, e)) i (subst (λ (m : ℕ). (i < at) ⊎ (at + m ≤ i)) (sym e) o)

store_outside : (s d : List ℕ) (k : Store) → StoreSafe s d k → (i : ℕ) → Apart (part_of d k) i → get_or (store_of s d k) i 0 ≡ get_or s i 0
store_outside s d store.Nothing h i o = refl
store_outside s d (store.Number at w x) h i o = spliced s at (bytes_of w x) w (length_bytes w x) h.0 i o
store_outside s d (store.Data z at) h i o = spliced s at (padded z d) _ (length_padded z d) (omega (arith, h, length_padded z d)) i o
store_outside s d (store.Bits at n) h i o = spliced s at (build n (bit_at s at n d)) n (length_build n _) h.0 i o
store_outside s d (store.Fill at n b) h i o = spliced s at (replicate n b) n (length-replicate n b) h i o

store_within : (s d : List ℕ) (k : Store) → StoreSafe s d k → (part_of d k).offset + (part_of d k).length ≤ length s
store_within s d store.Nothing h = omega arith
store_within s d (store.Number at w x) h = h.0
store_within s d (store.Data z at) h = omega (arith, h, length_padded z d)
store_within s d (store.Bits at n) h = h.0
store_within s d (store.Fill at n b) h = h

both_outside :
    (s d : List ℕ) (k : Decision) → Safe s d k → (i : ℕ) → Outside (changes_of d k) i →
    get_or (store_of (store_of s d k.first) d k.second) i 0 ≡ get_or s i 0
both_outside s d k f i o =
    store_outside (store_of s d k.first) d k.second f.second i o.second ∙ store_outside s d k.first f.first i o.first

nothing : (a d : List ℕ) (k : Decision) → Shape a k → 2 ≤ k.outcome → changes_of d k ≡ none
nothing a d k (refuse n l m e) h = refl
nothing a d k (deny p m e n) h = refl
nothing a d k (reply f g t r c) h = absurd (omega arith)
nothing a d k (done f) h = absurd (omega arith)
nothing a d k (restart f e) h = absurd (omega arith)

module _ (q : Sessions) (mode c group : ℕ) (a s o : List ℕ) (r : Made) (s' o' : List ℕ) (did : Requested q mode c group a s o r s' o') where
  abbrev d : List ℕ
  d = data_in (read_pdu a) a

  abbrev k : Decision
  k = judge_of (length o) s (session_for q mode c) mode group a

  is_safe : Safe s d k
  is_safe = safe (length o) s (session_for q mode c) mode group a

  says : r.changed ≡ changes_of d k
  unfolding changed_of
  says = did.changed

  after : s' ≡ store_of (store_of s d k.first) d k.second
  unfolding request_of step_of step_by
  after = did.call.did.sheet

  outcome : r.done.outcome ≡ k.outcome
  unfolding request_of step_of step_by
  outcome = did.call.did.outcome

  -- EVERY BYTE OUTSIDE BOTH PARTS IS AS FOUND
  pub kept_outside : (i : ℕ) → Outside r.changed i → get_or s' i 0 ≡ get_or s i 0
  kept_outside i h =
      ap (λ (l : List ℕ). get_or l i 0) after ∙ both_outside s d k is_safe i (subst (λ (x : Changed). Outside x i) says h)

  -- WHAT WAS REFUSED STORED NOTHING
  pub none_refused : 2 ≤ r.done.outcome → r.changed ≡ none
  none_refused h =
      says ∙ nothing a d k (shape (record { room = length o; sheet = s; session = session_for q mode c; mode = mode; group = group; apdu = a })) (omega (arith, outcome))

  -- BOTH PARTS LIE IN THE SHEET
  pub first_within : r.changed.first.offset + r.changed.first.length ≤ length s
  first_within = subst (λ (x : Changed). x.first.offset + x.first.length ≤ length s) (sym says) (store_within s d k.first is_safe.first)

  pub second_within : r.changed.second.offset + r.changed.second.length ≤ length s
  second_within =
      subst (λ (x : Changed). x.second.offset + x.second.length ≤ length s) (sym says)
      (omega (arith, store_within (store_of s d k.first) d k.second is_safe.second, length_store s d k.first is_safe.first))
