-- Times and dates that compare as `Equal` are equal.
use Rattle.std.proofs.Common.{◌≡◌, ℕ, true, ◌&&◌, Option, Some, None, refl, ap, subst}
use Rattle.std.specs.Prelude.{nat_eq}
use Rattle.std.specs.Cmp.{nat_eq_equiv, int_eq_equiv}
use Rattle.std.proofs.lemmas.Bool.Decides.{Decides-int_eq}
use Rattle.std.specs.Option.{option_eq}
use Rattle.std.specs.Ordering.{int_eq}
use Rattle.std.specs.declared.cmp.Ordering.TheVariants.{Equal}
use Rattle.std.proofs.lemmas.Bool.{and_parts, and_from}
use Rattle.bib_dates.specs.declared.date.Datetime.{Datetime}
use Rattle.bib_dates.specs.declared.date.Time.{Time}
use Rattle.bib_dates.specs.Orders.{same_time, time_cmp, datetime_cmp}
use Rattle.bib_dates.specs.OrderLaws.{same_datetime, nat_is, same_time_decides, time_laws, datetime_laws}

pub times_equal : (a b : Time) → (time_cmp a b ≡ Some Equal → a ≡ b) × (a ≡ b → time_cmp a b ≡ Some Equal)
times_equal a b =
    let same = time_laws.matches_eq a b in
    let is = same_time_decides a b in
    (λ h. is.0 (same.1 h), λ e. same.0 (is.1 e))

number_itself : (p : Option ℕ) → option_eq nat_eq p p ≡ true
number_itself None = refl
number_itself (Some n) = nat_eq_equiv.refl n

number_is : (p q : Option ℕ) → option_eq nat_eq p q ≡ true → p ≡ q
number_is None None h = refl
number_is None (Some n) h = cc
number_is (Some m) None h = cc
number_is (Some m) (Some n) h = ap (λ x. Some x) (nat_is m n h)

time_itself : (p : Option Time) → option_eq same_time p p ≡ true
time_itself None = refl
time_itself (Some t) = (same_time_decides t t).1 refl

time_is : (p q : Option Time) → option_eq same_time p q ≡ true → p ≡ q
time_is None None h = refl
time_is None (Some t) h = cc
time_is (Some s) None h = cc
time_is (Some s) (Some t) h = ap (λ x. Some x) ((same_time_decides s t).0 h)

same_datetime_itself : (a : Datetime) → same_datetime a a ≡ true
same_datetime_itself a =
    and_from _ _ (int_eq_equiv.refl a.year)
    (and_from _ _ (number_itself a.month) (and_from _ _ (number_itself a.day) (time_itself a.time)))

same_datetime_is : (a b : Datetime) → same_datetime a b ≡ true → a ≡ b
same_datetime_is a b h =
    let one =
    and_parts (int_eq a.year b.year)
    (option_eq nat_eq a.month b.month && (option_eq nat_eq a.day b.day && option_eq same_time a.time b.time)) h in
    let two = and_parts (option_eq nat_eq a.month b.month) (option_eq nat_eq a.day b.day && option_eq same_time a.time b.time) one.1 in
    let three = and_parts (option_eq nat_eq a.day b.day) (option_eq same_time a.time b.time) two.1 in
    λ i. record {
      year = (Decides-int_eq a.year b.year).0 one.0 i;
      month = number_is a.month b.month two.0 i;
      day = number_is a.day b.day three.0 i;
      time = time_is a.time b.time three.1 i;
    }

pub dates_equal : (a b : Datetime) → (datetime_cmp a b ≡ Some Equal → a ≡ b) × (a ≡ b → datetime_cmp a b ≡ Some Equal)
dates_equal a b =
    let same = datetime_laws.matches_eq a b in
    (λ h. same_datetime_is a b (same.1 h), λ e. same.0 (subst (λ x. same_datetime a x ≡ true) e (same_datetime_itself a)))
