-- Going over cells, one after another.
use Rattle.std.proofs.Common.{◌≡◌, ℕ, ◌+◌, ◌≤◌, List, [], ◌∷◌, ◌++◌, length, drop, fold, true, sym, ap, ◌∙◌, slice_get, Some}
use Rattle.std.proofs.lemmas.List.{drop_all, drop_more, append-nil}
use Rattle.std.proofs.lemmas.Option.{get_or_from_slice_get, slice_get_within}
use Rattle.etcd_model.specs.declared.state.Watch.{Watch}
use Rattle.key_index.specs.Links.{Cells}
use Rattle.watch_sync.specs.declared.noted.Noted.{Noted}
use Rattle.watch_sync.specs.Ahead.{notes_at}
use Rattle.watch_sync.specs.Gathering.{Gathering, offered}
use Rattle.watch_sync.proofs.Firsts.{stays}

pub notes_end : (v : Cells) (w : Watch) (cs : List ℕ) (ring out : List Noted) → cs ≡ [] → ring ++ notes_at v w cs ≡ out → ring ≡ out
notes_end v w cs ring out end same = sym (append-nil ring) ∙ ap (λ ds. ring ++ notes_at v w ds) (sym end) ∙ same

pub offers_full : (v : Cells) (w : Watch) (cs : List ℕ) (g out : Gathering) → g.more ≡ true → fold offered g (notes_at v w cs) ≡ out → g ≡ out
offers_full v w cs g out full same = sym (stays g (notes_at v w cs) full) ∙ same

-- over a ring
pub ring_offered : (ns : List Noted) (i : ℕ) (n : Noted) (g out : Gathering) → slice_get ns i ≡ Some n → fold offered g (drop i ns) ≡ out → fold offered (offered g n) (drop (i + 1) ns) ≡ out
ring_offered ns i n g out at same =
    let lt = slice_get_within ns i n at in
    let is = get_or_from_slice_get ns i n n at in
    sym (ap (fold offered g) (drop_more ns i n lt ∙ ap (λ m. m ∷ drop (i + 1) ns) is)) ∙ same

pub ring_end : (ns : List Noted) (i : ℕ) (g out : Gathering) → length ns ≤ i → fold offered g (drop i ns) ≡ out → g ≡ out
ring_end ns i g out end same = ap (fold offered g) (sym (drop_all i ns end)) ∙ same
