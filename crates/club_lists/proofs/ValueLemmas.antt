-- The number of some texts.
use Rattle.std.proofs.Common.{◌≡◌, List, String, string_bytes, length}
use Rattle.std.proofs.lemmas.List.{length-map}
use Rattle.std.specs.declared.alloc.Global.{Global}
use Rattle.club_lists.specs.ShownViews.{texts_view}

pub count_of : (texts : List (String Global)) → length (texts_view texts) ≡ length texts
count_of texts = length-map texts string_bytes
