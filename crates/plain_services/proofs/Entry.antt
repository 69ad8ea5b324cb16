-- The entry of a property has the fields of its record.
use Rattle.octets.proofs.Kit.{ℕ, ◌/◌, ◌%◌, ◌<◌, ◌≡◌, sym, ap, ◌∙◌, List, add-zero, lit<, eqb, get_or}
use Rattle.octets.specs.Bytes.{num_at}
use Rattle.sheet.{specs.{Kind.properties, Layout.◌of◌, Entries.{count, place, entry}}, proofs.places.Standing.field_at}
use Rattle.sheet.specs.Property as property
use Rattle.parts.specs.{declared.{Property.Property, Parts.Parts}, Records.{Taken, no_property}}

-- the entry e has the fields of p
pub record Fields (p : Property) (e : List ℕ) : Type 0 where
  pub object : property.object of e ≡ p.object
  pub id : property.id of e ≡ p.id
  pub writable : eqb (property.typ of e / 128) 1 ≡ p.writable
  pub typ : property.typ of e % 128 ≡ p.typ
  pub size : property.element of e ≡ p.size
  pub maximum : property.maximum of e ≡ p.maximum
  pub count : property.count of e ≡ p.count
  pub offset : property.offset of e ≡ p.offset
  pub read : property.levels of e / 16 ≡ p.read
  pub write : property.levels of e % 16 ≡ p.write

pub fields : (s : List ℕ) (u : Parts) (i : ℕ) → Taken s u → i < count s properties → Fields (get_or u.properties i no_property) (entry s properties i)
fields s u i t h =
    let p = t.properties i h in
    record {
      object = field_at s properties i property.object (lit< tt) ∙ ap (λ (n : ℕ). num_at s n 1) (add-zero (place s properties i)) ∙ sym p.object;
      id = field_at s properties i property.id (lit< tt) ∙ sym p.id;
      writable = ap (λ (x : ℕ). eqb (x / 128) 1) (field_at s properties i property.typ (lit< tt)) ∙ sym p.writable;
      typ = ap (λ (x : ℕ). x % 128) (field_at s properties i property.typ (lit< tt)) ∙ sym p.typ;
      size = field_at s properties i property.element (lit< tt) ∙ sym p.size;
      maximum = field_at s properties i property.maximum (lit< tt) ∙ sym p.maximum;
      count = field_at s properties i property.count (lit< tt) ∙ sym p.count;
      offset = field_at s properties i property.offset (lit< tt) ∙ sym p.offset;
      read = ap (λ (x : ℕ). x / 16) (field_at s properties i property.levels (lit< tt)) ∙ sym p.read;
      write = ap (λ (x : ℕ). x % 16) (field_at s properties i property.levels (lit< tt)) ∙ sym p.write;
    }
