-- Lemmas about the fields of dates.
use Rattle.std.proofs.Common.{◌≡◌, ℕ, cond, false, List, ◌++◌, map, refl, sym, ap, ◌∙◌, Some, None, Ok}
use Rattle.std.specs.Prelude.{codes}
use Rattle.std.specs.Char.{to_ascii_lowercase}
use Rattle.std.specs.FinMap as by_name
use Rattle.std.specs.FinMap.{get-remove}
use Rattle.std.specs.Ordering.{eq_by_cmp}
use Rattle.std.proofs.lemmas.Cmp.{nat_list_cmp_total}
use Rattle.bib_dates.specs.declared.date.Date.{Date}
use Rattle.bib_collections.specs.Sorted.{ByText, by_bytes}
use Rattle.bib_typed.specs.declared.typed.PermissiveType.{PermissiveType}
use Rattle.bib_typed.specs.declared.typed.Type.{Ghosts}
use Rattle.bib_entry.specs.DateFields.{without_part, SetsDate}
use Rattle.bib_entry.specs.Fields.{with_field}
use Rattle.bib_typed.specs.Retrieved.{field_as}
use Rattle.bib_entry.specs.Prefixes.{date_prefix}
use Rattle.bib_entry.specs.declared.dates.Prefix.{Prefix}
use Rattle.bib_entry.specs.declared.dates.Prefix.TheVariants.{Plain, Event, Orig, Url}
use Rattle.bib_entry.specs.declared.entry.Entry.{Entry}

-- the name of a date is in lowercase letters
lowered : (p : Prefix) → map to_ascii_lowercase (date_prefix p ++ codes "date") ≡ date_prefix p ++ codes "date"
lowered Plain = refl
lowered Event = refl
lowered Orig = refl
lowered Url = refl

-- the name of a date differs from the names of its parts
apart_year : (p : Prefix) → eq_by_cmp by_bytes (date_prefix p ++ codes "date") (date_prefix p ++ codes "year") ≡ false
apart_year Plain = refl
apart_year Event = refl
apart_year Orig = refl
apart_year Url = refl

apart_month : (p : Prefix) → eq_by_cmp by_bytes (date_prefix p ++ codes "date") (date_prefix p ++ codes "month") ≡ false
apart_month Plain = refl
apart_month Event = refl
apart_month Orig = refl
apart_month Url = refl

apart_day : (p : Prefix) → eq_by_cmp by_bytes (date_prefix p ++ codes "date") (date_prefix p ++ codes "day") ≡ false
apart_day Plain = refl
apart_day Event = refl
apart_day Orig = refl
apart_day Url = refl

-- a field that isn't removed keeps its chunks
stays : {V : Type 0} (m : ByText V) (name other : List ℕ) → eq_by_cmp by_bytes name other ≡ false
    → by_name.get (by_name.remove m other) name ≡ by_name.get m name
stays m name other apart = get-remove nat_list_cmp_total m other name ∙ ap (λ same. cond same None (by_name.get m name)) apart

-- a setter of a date does what `SetsDate` states
pub is_set_date : (type : Ghosts (PermissiveType Date)) (m : type.Meaning) (p : Prefix) (old mid two three new : Entry)
    (date year month day : List ℕ)
    → mid ≡ with_field old (map to_ascii_lowercase date) (type.writes m)
    → (type.kept m → field_as type.reads (by_name.get mid.fields (map to_ascii_lowercase date)) ≡ Some m)
    → date ≡ date_prefix p ++ codes "date" → year ≡ date_prefix p ++ codes "year"
    → month ≡ date_prefix p ++ codes "month" → day ≡ date_prefix p ++ codes "day"
    → two ≡ record mid { fields = by_name.remove mid.fields year }
    → three ≡ record two { fields = by_name.remove two.fields month }
    → new ≡ record three { fields = by_name.remove three.fields day }
    → SetsDate type m (date_prefix p) old new (Ok (tt {0}))
is_set_date type m p old mid two three new date year month day set kept date_is year_is month_is day_is no_year no_month no_day =
    let prefix = date_prefix p in
    let name = prefix ++ codes "date" in
    let small : map to_ascii_lowercase date ≡ name = ap (map to_ascii_lowercase) date_is ∙ lowered p in
    let first : mid ≡ with_field old name (type.writes m) = set ∙ ap (λ n. with_field old n (type.writes m)) small in
    let second : two ≡ without_part prefix (codes "year") mid =
    no_year ∙ ap (λ n. record mid { fields = by_name.remove mid.fields n }) year_is in
    let third : three ≡ without_part prefix (codes "month") two =
    no_month ∙ ap (λ n. record two { fields = by_name.remove two.fields n }) month_is in
    let fourth : new ≡ without_part prefix (codes "day") three =
    no_day ∙ ap (λ n. record three { fields = by_name.remove three.fields n }) day_is in
    let found : by_name.get new.fields name ≡ by_name.get mid.fields (map to_ascii_lowercase date) =
    ap (λ e. by_name.get e.fields name) fourth ∙ stays three.fields name (prefix ++ codes "day") (apart_day p)
    ∙ ap (λ e. by_name.get e.fields name) third ∙ stays two.fields name (prefix ++ codes "month") (apart_month p)
    ∙ ap (λ e. by_name.get e.fields name) second ∙ stays mid.fields name (prefix ++ codes "year") (apart_year p)
    ∙ ap (by_name.get mid.fields) (sym small) in
    record {
      set =
          fourth
          ∙ ap (without_part prefix (codes "day"))
          (third
          ∙ ap (without_part prefix (codes "month"))
          (second ∙ ap (without_part prefix (codes "year")) first));
      kept = λ is_kept. ap (field_as type.reads) found ∙ kept is_kept;
      refused = tt;
    }
