-- Lemmas about entries.
use Rattle.std.proofs.Common.{◌≡◌, refl, ap}
use Rattle.bib_tables.specs.declared.mechanics.EntryType.{EntryType}
use Rattle.bib_tables.specs.declared.mechanics.EntryType.TheVariants.{Article, Book, Booklet, InBook, InCollection, InProceedings, Manual, MastersThesis, PhdThesis, Misc, Proceedings, TechReport, Unpublished, MvBook, BookInBook, SuppBook, Periodical, SuppPeriodical, Collection, MvCollection, SuppCollection, Reference, MvReference, InReference, MvProceedings, Report, Patent, Thesis, Online, Software, Dataset, Set, XData, Unknown}
use Rattle.bib_tables.specs.contracts.mechanics.EntryTypeClone.TheImpl.{ghosts}

-- a clone of an entry type equals it
pub same_type : (a b : EntryType) → ghosts.is_clone a b → b ≡ a
same_type Article Article h = refl
same_type Book Book h = refl
same_type Booklet Booklet h = refl
same_type InBook InBook h = refl
same_type InCollection InCollection h = refl
same_type InProceedings InProceedings h = refl
same_type Manual Manual h = refl
same_type MastersThesis MastersThesis h = refl
same_type PhdThesis PhdThesis h = refl
same_type Misc Misc h = refl
same_type Proceedings Proceedings h = refl
same_type TechReport TechReport h = refl
same_type Unpublished Unpublished h = refl
same_type MvBook MvBook h = refl
same_type BookInBook BookInBook h = refl
same_type SuppBook SuppBook h = refl
same_type Periodical Periodical h = refl
same_type SuppPeriodical SuppPeriodical h = refl
same_type Collection Collection h = refl
same_type MvCollection MvCollection h = refl
same_type SuppCollection SuppCollection h = refl
same_type Reference Reference h = refl
same_type MvReference MvReference h = refl
same_type InReference InReference h = refl
same_type MvProceedings MvProceedings h = refl
same_type Report Report h = refl
same_type Patent Patent h = refl
same_type Thesis Thesis h = refl
same_type Online Online h = refl
same_type Software Software h = refl
same_type Dataset Dataset h = refl
same_type Set Set h = refl
same_type XData XData h = refl
same_type (Unknown text) (Unknown copy) h = ap Unknown h
same_type a b h = absurd h
