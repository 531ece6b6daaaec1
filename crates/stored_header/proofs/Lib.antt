-- The laws of the header, of the checks 10 to 13 and 6, and of the table of forms.
pub mod Forms
pub mod Checked
pub mod Laid
pub mod Admitted
