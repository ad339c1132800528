-- The output of a command over the file, to compare with that of one executed by the server.
use Rattle.std.specs.Prelude.{◌++◌, ◌==◌, List, ℕ, [], if◌then◌else◌}
use Rattle.club_orders.specs.declared.report.Report.{Report}
use Rattle.club_orders.specs.Report.{report_status, report_text}
use Rattle.control_socket.specs.Printed.{Print}

-- the answer to a query, which a command does not have, then the line of the report
abbrev pub report_print : (shown : List ℕ) → Report → Print
report_print shown report =
    if report_status report == 0
    then record { status = 0; out = shown ++ report_text report; err = [] }
    else record { status = report_status report; out = shown; err = report_text report }
