-- The members' page and its parts.
use Rattle.std.proofs.Common.{◌≡◌, ◌++◌, refl}
use Rattle.club_page.specs.Joined.{page, page_1, page_2, page_3, page_4}

pub of_parts : page_1 ++ page_2 ++ page_3 ++ page_4 ≡ page
unfolding page
of_parts = refl
