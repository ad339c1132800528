pub mod TableVersions
