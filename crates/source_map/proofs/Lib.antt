mod Cursors
mod Lists
mod ListTexts
mod PutTexts
mod WordItems
