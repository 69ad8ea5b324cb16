-- A write to memory, of bytes or of bits: what is due is what is done.
use Rattle.octets.proofs.Kit.{ℕ, ◌≡◌, refl, sym, ap, subst, ◌∙◌, ◌↔◌, List, [], length, take, drop, arith}
use Rattle.octets.specs.Splice.{splice}
use Rattle.sheet.{specs.declared.Memory.{Memory, TheVariants.{Device, User}}, proofs.{rules.Good.{Good, good}, promises.Runs.{range_hit, range_within}}}
use Rattle.pdu.{specs.declared.Pdu.Pdu, proofs.promises.Readings.reading}
use Rattle.judge.specs.{declared.{Access.Access, Store.Store, Decision.Decision}, Session.level_in, Judge.decide_of, Memory.{most_bytes, response_of, memory_write_of}}
use Rattle.judge.proofs.MemoryCases.{Suffices, Permits, range_in, changed, verified, change_cases, change_writes, change_stores, memory_write_is, bit_write_is}
use Rattle.judge.specs.declared.Access.TheVariants as access
use Rattle.judge.specs.declared.Store.TheVariants as store
use Rattle.judge.specs.Decisions as decisions
use Rattle.device.specs.{Carry.{store_of, build, bit_at}, Step.step_by, Asked.{Asked, quiet, says, says_after, stores, Reads, given}, MemoryDue.{Write, bytes, bits, into, writing, most_of}}
use Rattle.device.specs.MemoryDue.{most_in, response, ToWrite, MemoryWritable, Leaves, Verify, MemoryDue, memory_write_verified, memory_write, no_memory_write_verified, no_memory_write}
use Rattle.device.proofs.{leaves.Bits.{length_build, combined, combined_is}, due.{Given.{memory_data, user_data}, Acts.{acts, acts_is}}, leaves.Stores.stored_back}
use Rattle.device.proofs.due.{OpenRanges.{over_write, opens, opened}, Stepped.{step, step_read}}

-- how judging goes about a write, and that it means the same
pub record Change (x : Asked) (w : Write) (n address : ℕ) : Type 0 where
  pub access : Access
  pub new : ℕ → Store
  pub left : ℕ → List ℕ
  pub decides :
      decide_of x.sheet (level_in x.session x.mode) x.group (given x (writing w n address)) (writing w n address)
      ≡ changed access (most_in w) new x.sheet (into w) (level_in x.session x.mode) n address
  pub answers : (k : ℕ) → response_of (into w) k address ≡ response (into w) k address
  pub stored : (o : ℕ) → store_of x.sheet (given x (writing w n address)) (new o) ≡ splice x.sheet o (left o)
  pub long : (o : ℕ) → length (left o) ≡ n
  pub rights : (level levels : ℕ) → ToWrite w level levels ↔ Suffices access level levels
  pub leaves : (o : ℕ) → Leaves x w n address o (left o)
  pub only : (o : ℕ) (d : List ℕ) → Leaves x w n address o d → d ≡ left o

-- of bytes: what is known of the memory's PDUs
bytes_of :
    (x : Asked) (m : Memory) (n address : ℕ) →
    decide_of x.sheet (level_in x.session x.mode) x.group (given x (writing (bytes m) n address)) (writing (bytes m) n address)
    ≡ memory_write_of x.sheet m (level_in x.session x.mode) n address →
    most_bytes m ≡ most_of m → ((k : ℕ) → response_of m k address ≡ response m k address) →
    length (given x (writing (bytes m) n address)) ≡ n → Change x (bytes m) n address
bytes_of x m n address decides most answers long =
    record {
      access = access.Write;
      new = store.Data 0;
      left = λ o. given x (writing (bytes m) n address);
      decides =
          decides ∙ memory_write_is x.sheet m _ n address
          ∙ ap (λ (k : ℕ). changed access.Write k (store.Data 0) x.sheet m (level_in x.session x.mode) n address) most;
      answers = answers;
      stored = λ o. refl;
      long = λ o. long;
      rights = λ level levels. (λ h. h, λ h. h);
      leaves = λ o. refl;
      only = λ o d e. e;
    }

pub change_of_lem : (x : Asked) (w : Write) (n address : ℕ) → Reads x (writing w n address) → Change x w n address
change_of_lem x (bytes Device) n address r =
    bytes_of x Device n address refl refl (λ k. refl) (memory_data x.apdu n address (reading x.apdu _ r.reads))
change_of_lem x (bytes User) n address r =
    bytes_of x User n address refl refl (λ k. refl) (user_data x.apdu n address (reading x.apdu _ r.reads))
change_of_lem x bits n address r =
    record {
      access = access.Change;
      new = λ o. store.Bits o n;
      left = λ o. build n (bit_at x.sheet o n (given x (writing bits n address)));
      decides = bit_write_is x.sheet _ n address;
      answers = λ k. refl;
      stored = λ o. refl;
      long = λ o. length_build n _;
      rights = λ level levels. (λ h. h, λ h. h);
      leaves = λ o. combined x.sheet o n _;
      only = λ o d e. combined_is x.sheet o n _ e;
    }

module _ (x : Asked) (w : Write) (n address : ℕ) (r : Reads x (writing w n address)) where
  abbrev c : Change x w n address
  c = change_of_lem x w n address r

  abbrev p : Pdu
  p = writing w n address

  abbrev level : ℕ
  level = level_in x.session x.mode

  abbrev Permitted : ℕ → Type 0
  Permitted o = Permits c.access (most_in w) x.sheet (into w) level n address o

  ok : Good x.sheet
  ok = good x.sheet r.ready.sheet

  pub to : (o : ℕ) → MemoryWritable x w n address o → Permitted o
  to o q =
      let v = opened (over_write w) ok q in
      record {
        some = q.some;
        few = q.few;
        levels = v.0;
        run = range_hit ok v.1;
        suffices = (c.rights level v.0).0 (subst (λ (l : ℕ). ToWrite w l v.0) (sym (acts_is x q.acts)) v.2);
      }

  pub from : (o : ℕ) → Permitted o → MemoryWritable x w n address o
  from o q = opens (over_write w) q.few (range_in ok q) (acts x) ((c.rights level q.levels).1 q.suffices)

  -- the sheet afterwards
  abbrev after : ℕ → List ℕ
  after o = splice x.sheet o (c.left o)

  abbrev made : Decision
  made = changed c.access (most_in w) c.new x.sheet (into w) level n address

  writes : (o : ℕ) → MemoryWritable x w n address o → Verify x → made ≡ verified c.access (most_in w) c.new x.sheet (into w) level n address o
  writes o q v = change_writes c.access (most_in w) c.new x.sheet (into w) level n address o (to o q) v

  saves : (o : ℕ) → MemoryWritable x w n address o → (Verify x → ⊥) → made ≡ decisions.stored (c.new o)
  saves o q v = change_stores c.access (most_in w) c.new x.sheet (into w) level n address o (to o q) v

  -- what the answer then shows is what was stored
  shown :
      (o : ℕ) → MemoryWritable x w n address o →
      step_by x.sheet x.session (given x p) (verified c.access (most_in w) c.new x.sheet (into w) level n address o)
      ≡ says_after x (after o) (response (into w) n address) (c.left o)
  unfolding step_by
  shown o q =
      ap (λ (t : List ℕ). says_after x t (response_of (into w) n address) (take n (drop o t))) (c.stored o)
      ∙ ap (says_after x (after o) (response_of (into w) n address)) (stored_back x.sheet (c.left o) o n (c.long o) (range_within ok (opened (over_write w) ok q).1))
      ∙ ap (λ (a : Pdu). says_after x (after o) a (c.left o)) (c.answers n)

  kept : (o : ℕ) → step_by x.sheet x.session (given x p) (decisions.stored (c.new o)) ≡ stores x (after o)
  unfolding step_by
  kept o = ap (stores x) (c.stored o)

  denies : step_by x.sheet x.session (given x p) (decisions.denied (response_of (into w) 0 address)) ≡ says x 11 (response (into w) 0 address) []
  unfolding step_by
  denies = ap (λ (a : Pdu). says x 11 a []) (c.answers 0)

  pub only_verified : (o : ℕ) → MemoryWritable x w n address o → Verify x → says_after x (after o) (response (into w) n address) (c.left o) ≡ step x
  only_verified o q v = sym (shown o q) ∙ step_read x p r _ (c.decides ∙ writes o q v)

  pub only_stored : (o : ℕ) → MemoryWritable x w n address o → (Verify x → ⊥) → stores x (after o) ≡ step x
  only_stored o q v = sym (kept o) ∙ step_read x p r _ (c.decides ∙ saves o q v)

  module _ (f : (o : ℕ) → MemoryWritable x w n address o → ⊥) where
    pub only_denied : Verify x → says x 11 (response (into w) 0 address) [] ≡ step x
    only_denied v =
        sym denies
        ∙ step_read x p r (decisions.denied (response_of (into w) 0 address))
        (c.decides
        ∙ change_cases c.access (most_in w) c.new x.sheet (into w) level n address
        (λ (k : Decision). k ≡ decisions.denied (response_of (into w) 0 address))
        (λ o q u. absurd (f o (from o q))) (λ o q u. absurd (u v)) (λ u. refl) (λ u. absurd (u v)))

    pub only_refused : (Verify x → ⊥) → quiet x 12 ≡ step x
    unfolding step_by
    only_refused v =
        step_read x p r (decisions.refused 12)
        (c.decides
        ∙ change_cases c.access (most_in w) c.new x.sheet (into w) level n address
        (λ (k : Decision). k ≡ decisions.refused 12)
        (λ o q u. absurd (v u)) (λ o q u. absurd (f o (from o q))) (λ u. absurd (v u)) (λ u. refl))

  -- one of the four is due
  pub right_change : MemoryDue x (step_by x.sheet x.session (given x p) made)
  unfolding step_by
  right_change =
      change_cases c.access (most_in w) c.new x.sheet (into w) level n address
      (λ (k : Decision). made ≡ k → MemoryDue x (step_by x.sheet x.session (given x p) k))
      (λ o q v e.
      let u = from o q in
      subst (MemoryDue x) (sym (shown o u)) (memory_write_verified w n address o (c.left o) r u (c.leaves o) v))
      (λ o q v e. subst (MemoryDue x) (sym (kept o)) (memory_write w n address o (c.left o) r (from o q) (c.leaves o) v))
      (λ v e.
      subst (MemoryDue x) (sym denies)
      (no_memory_write_verified w n address r
      (λ o q. let z : ◌≡◌ {A = ℕ} 0 11 = ap (λ (k : Decision). k.outcome) (sym (writes o q v) ∙ e) in omega arith)
      v))
      (λ v e.
      no_memory_write w n address r
      (λ o q. let z : ◌≡◌ {A = ℕ} 1 12 = ap (λ (k : Decision). k.outcome) (sym (saves o q v) ∙ e) in omega arith)
      v)
      refl

  pub right_memory_write : MemoryDue x (step_by x.sheet x.session (given x p) (decide_of x.sheet level x.group (given x p) p))
  right_memory_write = rw c.decides right_change
