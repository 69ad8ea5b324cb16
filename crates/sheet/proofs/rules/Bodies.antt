-- What is judged of a body.
use Rattle.octets.proofs.Kit.{ℕ, ◌+◌, ◌*◌, ◌≤◌, ◌<◌, ◌≡◌, ap, sym, ◌∙◌, subst, List, bit_or, bit_xor, or_add_and, xor_add_and, and_le_l, and_le_r, or_zero_l, xor_self, le-leb, lt-leb}
use Rattle.octets.proofs.Kit.{mul-le-mul, arith}
use Rattle.std.specs.Prelude.{Result, Ok, Err, IsErr, IsErrAnd}
use Rattle.octets.specs.Bytes.{num_at}
use Rattle.sheet.specs.{Demand.{Demand, Tells}, Kind.groups, Layout.◌of◌, Entries.six_bits, Rules.property_demands, Walk.{long, Late, StepOver}, Fault.number_of, declared.{Fault.Fault, entry_rules.Step.Step}}
use Rattle.sheet.specs.Group as group
use Rattle.sheet.specs.Property as property
use Rattle.sheet.proofs.rules.Demands.{told, met}

-- two numbers together are 0 if both are; what differs between two is 0 if they are one
pub or_none : (a b : ℕ) → bit_or a b ≡ 0 → (a ≡ 0) × (b ≡ 0)
or_none a b e = let h = or_add_and a b in omega (arith, h, and_le_l a b, and_le_r a b)

xor_none : (a b : ℕ) → bit_xor a b ≡ 0 → a ≡ b
xor_none a b e = let h = xor_add_and a b in omega (arith, h, and_le_l a b, and_le_r a b)

-- what was late, what differs between two numbers, and a third: 0 exactly if all three are
module _ (l a b c : ℕ) where
  pub none_late : bit_or (bit_or l (bit_xor a b)) c ≡ 0 → (l ≡ 0) × (a ≡ b) × (c ≡ 0)
  none_late e =
      let o = or_none (bit_or l (bit_xor a b)) c e in
      let p = or_none l (bit_xor a b) o.0 in
      (p.0, xor_none a b p.1, o.1)

  pub not_late : l ≡ 0 → a ≡ b → c ≡ 0 → bit_or (bit_or l (bit_xor a b)) c ≡ 0
  not_late e q h =
      let x : bit_xor a b ≡ 0 = ap (λ (y : ℕ). bit_xor y b) q ∙ xor_self b in
      rw (e, x, h, or_zero_l 0) (or_zero_l 0)

-- what a step leaves behind an entry that breaks nothing
pub behind : (ds : List Demand) (l late from z six n p a x : ℕ) (r : Step) → Tells 0 ds → r.at ≡ p → r.last ≡ l → Late late a z x r.late
    → a ≡ from → x ≡ six → r.end ≡ z + n → n < long → StepOver ds l late from z six n p (Ok r)
behind ds l late from z six n p a x r t ep el k ea ex ez h =
    record {
      rule = t;
      next = record { at = ep; last = el; kept = subst (λ (y : ℕ). Late late y z six r.late) ea (subst (λ (y : ℕ). Late late a z y r.late) ex k); end = ez; short = h };
    }

-- and that one that breaks a rule leaves nothing
pub no_step : (ds : List Demand) (l late from z six n p : ℕ) (r : Result Step Fault) (fault : Fault) → IsErr r × IsErrAnd r (λ e. e ≡ fault) → Tells (number_of fault) ds →
    StepOver ds l late from z six n p r
no_step ds l late from z six n p (Ok q) fault h t = absurd h.1
no_step ds l late from z six n p (Err e) fault h t = record { rule = subst (λ (f : Fault). Tells (number_of f) ds) (sym h.1) t; next = tt }

-- the elements of a property that breaks nothing
pub elements_short : (f r n : ℕ) (e : List ℕ) → Tells r (property_demands f e) → r ≡ 0 → n ≡ property.element of e * property.maximum of e → n < long
elements_short f r n e t z q =
    let h = met (property_demands f e) tt (sym (told r _ t) ∙ z) in
    let p : property.element of e * property.maximum of e ≤ 10 * 4095 = mul-le-mul h.1.1.1.1.0 h.1.1.1.1.1.1.0 in
    omega (arith, p)

-- the byte of a group object that is to be below 64
module _ (s e : List ℕ) where
  pub six_long : (b : ℕ) → b ≡ group.code of e → 1 ≤ b → 0 ≡ six_bits s groups e
  unfolding six_bits
  six_long b q l = rw (le-leb 1 (group.code of e) (omega arith))

  pub six_short : (b a r : ℕ) → b ≡ group.code of e → b < 1 → a ≡ group.offset of e → r ≡ num_at s a 1 → r ≡ six_bits s groups e
  unfolding six_bits
  six_short b a r q l f p = p ∙ rw (lt-leb 1 (group.code of e) (omega arith), f)
