-- The numbers of entries of an accepted sheet.
use Rattle.octets.proofs.Kit.{ℕ, ◌+◌, ◌*◌, ◌≤◌, ◌<◌, ◌≡◌, sym, ◌∙◌, eq-eqb, length, get_or, List, arith}
use Rattle.octets.specs.Bytes.{num_at, IsNum}
use Rattle.sheet.{specs.{Rules.Accepted, Head.users}, proofs.rules.Good.good}
use Rattle.parts.specs.{declared.{Counts.Counts, Parts.Parts, Starts.Starts}, Again.{second, third, fourth, end}}
use Rattle.parts.specs.Records.{IsHead, IsCounts, IsRegion, IsProperty, IsGroup, Taken, no_region, no_property, no_group}

pub counts_are : (s : List ℕ) (z : Counts) → Accepted s → IsNum s 1 1 256 z.regions → IsNum s 2 1 256 z.properties → IsNum s 3 1 256 z.groups → IsNum s 15 1 256 z.users → IsCounts z s
counts_are s z ok a b c e =
    let f = (good s ok).framed in
    let d : z.users ≡ users s = e.value ∙ sym (simp (eq-eqb (num_at s 0 1) 2 (good s ok).own)) in
    record {
      regions = a.value;
      properties = b.value;
      groups = c.value;
      users = d;
      few_regions = omega (arith, f, a.value);
      few_properties = omega (arith, f, b.value);
      few_groups = omega (arith, f, c.value);
      few_users = omega (arith, f, d);
      fits = omega (arith, f, a.value, b.value, c.value, d);
      short = omega (arith, f);
    }

-- the parts are those of the sheet
pub taken : (s : List ℕ) (u : Parts) (r : Starts) → IsHead u.head s → IsCounts u.counts s
    → (r.properties ≡ second u.counts) × (r.groups ≡ third u.counts) × (r.users ≡ fourth u.counts) × (r.bodies ≡ end u.counts)
    → ((i : ℕ) → i < u.counts.regions → IsRegion (get_or u.regions i no_region) s (32 + 8 * i))
    → (length u.properties ≡ 64) × ((i : ℕ) → i < u.counts.properties → IsProperty (get_or u.properties i no_property) s (r.properties + 12 * i))
    → ((i : ℕ) → i < u.counts.groups → IsGroup (get_or u.groups i no_group) s (r.groups + 8 * i))
    → ((i : ℕ) → i < u.counts.users → IsRegion (get_or u.users i no_region) s (r.users + 8 * i))
    → (length u.bodies ≡ 16384) × ((p : ℕ) → r.bodies ≤ p → p < length s → get_or u.bodies p 0 ≡ get_or s p 0)
    → u.length ≡ length s → Taken s u
taken s u r h z q a b c d e l =
    record {
      front = h;
      counts = z;
      regions = rw z.regions at a;
      properties = rw (q.0, z.regions, z.properties) at b.1;
      groups = rw (q.1, z.regions, z.properties, z.groups) at c;
      users = rw (q.2, z.regions, z.properties, z.groups, z.users) at d;
      bodies = rw (q.3, z.regions, z.properties, z.groups, z.users) at e.1;
      long = l;
      many = b.0;
      room = e.0;
    }
