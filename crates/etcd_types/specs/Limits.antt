-- The limits that definitions cite.
use Rattle.std.specs.Prelude.{ℕ, ℤ}
use Rattle.etcd_types.specs.declared.limits.TheConstants.{LAST_MOMENT, RESPONSE_REVISIONS, MAX_OPS, MAX_TTL}
use Rattle.etcd_types.specs.declared.limits.TheConstants.{LAST_REVISION, LAST_LEASE_ID, CELL_BYTES}
use Rattle.etcd_types.specs.declared.limits.TheConstants.{WATCH_SLOTS, MAX_BODY, MAX_SCRIPT_LINE, MAX_NAME}
use Rattle.etcd_types.specs.declared.limits.TheConstants.{MIN_QUOTA, MAX_QUOTA, PROGRESS_SECONDS}

abbrev pub max_ops : ℕ
max_ops = MAX_OPS

abbrev pub max_ttl : ℤ
max_ttl = MAX_TTL

abbrev pub last_moment : ℕ
last_moment = LAST_MOMENT

abbrev pub last_revision : ℕ
last_revision = LAST_REVISION

abbrev pub last_lease_id : ℕ
last_lease_id = LAST_LEASE_ID

abbrev pub cell_bytes : ℕ
cell_bytes = CELL_BYTES

abbrev pub watch_slots : ℕ
watch_slots = WATCH_SLOTS

abbrev pub response_revisions : ℕ
response_revisions = RESPONSE_REVISIONS

abbrev pub progress_seconds : ℕ
progress_seconds = PROGRESS_SECONDS

abbrev pub max_body : ℕ
max_body = MAX_BODY

abbrev pub max_script_line : ℕ
max_script_line = MAX_SCRIPT_LINE

abbrev pub max_name : ℕ
max_name = MAX_NAME

abbrev pub min_quota : ℕ
min_quota = MIN_QUOTA

abbrev pub max_quota : ℕ
max_quota = MAX_QUOTA
